-- When a word is said, and when its last message went out.
use Rattle.std.proofs.lemmas.Bool.Decides.{nat_tests}
use Rattle.std.proofs.Common.{◌≡◌, ◌≤◌, ◌<◌, ℕ, suc, ◌+◌, ◌-◌, ◌%◌, Bool, true, false, ◌&&◌, nat_eq, nat_lt, nat_le, if◌then◌else◌, Option, None, Some, refl, ap, sym, ◌∙◌, arith}
use Rattle.std.proofs.Math.Bool.{and-false}
use Rattle.sync_ql.specs.Messages.{second}
use Rattle.link_model.specs.declared.word.Word.{Word}
use Rattle.link_model.specs.Spoken.{is_before, said_by, end_before, second_before, last_of}
use Rattle.link_model.specs.private.Kept.{ended_at}

pub below : (a b : ℕ) → a < b → nat_lt a b ≡ true
below a b less = grind (arith, nat_tests)

pub not_below : (a b : ℕ) → b ≤ a → nat_lt a b ≡ false
not_below a b more = grind (arith, nat_tests)

pub within : (a b : ℕ) → a ≤ b → nat_le a b ≡ true
within a b less = grind (arith, nat_tests)

pub not_within : (a b : ℕ) → b < a → nat_le a b ≡ false
not_within a b more = grind (arith, nat_tests)

pub equal : (a b : ℕ) → a ≡ b → nat_eq a b ≡ true
equal a b same = grind (arith, nat_tests)

pub not_equal : (a b : ℕ) → (a ≡ b → ⊥) → nat_eq a b ≡ false
not_equal a b other = grind (arith, nat_tests)

pub is_below : (a b : ℕ) → nat_lt a b ≡ true → a < b
is_below a b less = grind (arith, nat_tests)

pub is_not_below : (a b : ℕ) → nat_lt a b ≡ false → b ≤ a
is_not_below a b more = grind (arith, nat_tests)

pub is_within : (a b : ℕ) → nat_le a b ≡ true → a ≤ b
is_within a b less = grind (arith, nat_tests)

pub is_not_within : (a b : ℕ) → nat_le a b ≡ false → b < a
is_not_within a b more = grind (arith, nat_tests)

pub is_equal : (a b : ℕ) → nat_eq a b ≡ true → a ≡ b
is_equal a b same = grind (arith, nat_tests)

pub is_not_equal : (a b : ℕ) → nat_eq a b ≡ false → a ≡ b → ⊥
is_not_equal a b other same = grind (arith, nat_tests)

-- what a word says
pub said_by-early : (w : Word) (s : ℕ) → s < w.sent → said_by w s ≡ None
said_by-early w s early = rw (not_within w.sent s early) refl

pub said_by-over : (w : Word) (s : ℕ) → is_before s w.until ≡ false → said_by w s ≡ None
said_by-over w s over = rw (over, and-false (nat_le w.sent s)) refl

pub said_by-now : (w : Word) (s : ℕ) → w.sent ≤ s → is_before s w.until ≡ true → said_by w s ≡ Some w.level
said_by-now w s from before = rw (within w.sent s from, before) refl

-- the end of a word, or a millisecond if that is earlier
pub end-over : (u n : ℕ) → u ≤ n → end_before (Some u) n ≡ u
end-over u n over = grind (arith, nat_tests)

end-before : (until : Option ℕ) (r n : ℕ) → n ≤ suc r → is_before r until ≡ true → end_before until n ≡ n
end-before None r n less before = refl
end-before (Some u) r n less before =
    let later : r < u = is_below r u before in
    rw (not_below u n (omega (arith, later, less))) refl

pub end-within : (until : Option ℕ) (n : ℕ) → end_before until n ≤ n
end-within None n = omega arith
end-within (Some u) n = grind (arith, nat_tests)

-- where the word has ended, its last message stays
pub last-over : (sent : ℕ) (until : Option ℕ) (r : ℕ) → is_before (suc r) until ≡ false → last_of sent until (suc (suc r)) ≡ last_of sent until (suc r)
last-over sent None r over = cc
last-over sent (Some u) r over =
    let ended : u ≤ suc r = is_not_below (suc r) u over in
    ap (λ e. if nat_lt (second_before e) sent then sent else second_before e) (end-over u (suc (suc r)) (omega (arith, ended)) ∙ sym (end-over u (suc r) ended))

second-here : (r : ℕ) → suc r % 1000 ≡ 0 → suc (suc r) - 1 - (suc (suc r) - 1) % 1000 ≡ suc r
second-here r whole = let e : suc (suc r) - 1 ≡ suc r = omega arith in rw (e, whole) (omega arith)

second-earlier : (r : ℕ) → (suc r % 1000 ≡ 0 → ⊥) → suc (suc r) - 1 - (suc (suc r) - 1) % 1000 ≡ suc r - 1 - (suc r - 1) % 1000
second-earlier r part =
    let e : suc (suc r) - 1 ≡ suc r = omega arith in
    let f : suc r - 1 ≡ r = omega arith in
    rw (e, f) (omega (arith, part))

-- while a word is said, a message goes out each second
pub last-again : (sent : ℕ) (until : Option ℕ) (r : ℕ) → sent ≤ r → is_before (suc r) until ≡ true → last_of sent until (suc (suc r)) ≡ (if nat_eq (suc r % second) 0 then suc r else last_of sent until (suc r))
last-again sent until r early before =
    ap (λ e. if nat_lt (second_before e) sent then sent else second_before e) (end-before until (suc r) (suc (suc r)) (omega arith) before)
    ∙ by (nat_eq (suc r % second) 0) refl
  where
    by : (b : Bool) → nat_eq (suc r % second) 0 ≡ b → (if nat_lt (second_before (suc (suc r))) sent then sent else second_before (suc (suc r))) ≡ (if b then suc r else last_of sent until (suc r))
    by true whole =
        let here : second_before (suc (suc r)) ≡ suc r = second-here r (is_equal (suc r % second) 0 whole) in
        rw here (rw (not_below (suc r) sent (omega (arith, early))) refl)
    by false part =
        ap (λ e. if nat_lt e sent then sent else e) (second-earlier r (is_not_equal (suc r % second) 0 part))
        ∙ sym (ap (λ e. if nat_lt (second_before e) sent then sent else second_before e) (end-before until (suc r) (suc r) (omega arith) before))

pub last-first : (sent : ℕ) (until : Option ℕ) → is_before sent until ≡ true → last_of sent until (suc sent) ≡ sent
last-first sent until before =
    ap (λ e. if nat_lt (second_before e) sent then sent else second_before e) (end-before until sent (suc sent) (omega arith) before)
    ∙ by (suc sent - 1 - (suc sent - 1) % 1000) (omega arith)
  where
    by : (e : ℕ) → e ≤ sent → (if nat_lt e sent then sent else e) ≡ sent
    by e less = grind (arith, nat_tests)

either : (e sent m : ℕ) → m ≤ e + 1000 → m ≤ (if nat_lt e sent then sent else e) + 1000
either e sent m near = grind (arith, nat_tests)

pub last-near : (sent : ℕ) (until : Option ℕ) (n : ℕ) → end_before until n ≤ last_of sent until n + 1000
last-near sent until n = by (end_before until n)
  where
    by : (e : ℕ) → e ≤ (if nat_lt (second_before e) sent then sent else second_before e) + 1000
    by e = either (second_before e) sent e (omega arith)

-- a word that is cut short, or ended, when it is said no longer than so
pub last-ended : (sent : ℕ) (until : Option ℕ) (now n : ℕ) → n ≤ now → last_of sent (ended_at now until) n ≡ last_of sent until n
last-ended sent (Some u) now n early = refl
last-ended sent None now n early =
    ap (λ e. if nat_lt (second_before e) sent then sent else second_before e)
    (let same : end_before (Some now) n ≡ n = grind (arith, nat_tests) in same)

pub last-cut : (sent : ℕ) (until : Option ℕ) (end n : ℕ) → end ≤ n → last_of sent (Some (end_before until end)) n ≡ last_of sent until end
last-cut sent until end n later =
    let less = end-within until end in
    ap (λ e. if nat_lt (second_before e) sent then sent else second_before e) (end-over (end_before until end) n (omega (arith, less, later)))

-- no message goes out later than now
pub last-within : (sent : ℕ) (until : Option ℕ) (n : ℕ) → sent < n → last_of sent until n < n
last-within sent until n early = by (end_before until n) (end-within until n)
  where
    by : (e : ℕ) → e ≤ n → (if nat_lt (second_before e) sent then sent else second_before e) < n
    by e less = smaller (second_before e) (let less_then : e - 1 - (e - 1) % 1000 < n = omega (arith, less, early) in less_then)
      where
        smaller : (s : ℕ) → s < n → (if nat_lt s sent then sent else s) < n
        smaller s small = grind (arith, nat_tests)
