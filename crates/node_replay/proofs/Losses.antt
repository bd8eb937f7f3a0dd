-- When a level that is heard is lost.
use Rattle.std.proofs.Common.{◌≡◌, ◌≤◌, ◌<◌, ◌+◌, ◌-◌, ℕ, zero, suc, List, [], ◌∷◌, length, Option, None, Some, IfSome, refl, sym, subst, ◌∙◌, arith}
use Rattle.std.specs.Prelude.{slice_index_or}
use Rattle.std.proofs.Math.Decide.{dec_lt}
use Rattle.std.proofs.lemmas.Bool.{le-ltb, lt-ltb}
use Rattle.node_replay.specs.declared.inputs.LastLevel.{LastLevel}
use Rattle.node_replay.specs.declared.inputs.InputNow.{InputNow}
use Rattle.node_replay.specs.private.Keeping.{heard_of}

pub still-heard : (word : LastLevel) (now m : ℕ) → now - word.at < 5000 → now ≤ m → m < now + (5000 - (now - word.at))
    → heard_of (Some word) m ≡ heard_of (Some word) now
unfolding heard_of
still-heard word now m young later early =
    rw (lt-ltb (m - word.at) 5000 (omega (arith, young, later, early)), lt-ltb (now - word.at) 5000 young) refl

pub still-lost : (word : LastLevel) (now m : ℕ) → 5000 ≤ now - word.at → now ≤ m → heard_of (Some word) m ≡ heard_of (Some word) now
unfolding heard_of
still-lost word now m old later =
    rw (le-ltb (m - word.at) 5000 (omega (arith, old, later)), le-ltb (now - word.at) 5000 old) refl

-- what is later than a millisecond is not before the next
pub if-later : (now : ℕ) (o : Option ℕ) → IfSome o (λ d. now < d) → IfSome o (λ d. now + 1 ≤ d)
if-later now None later = tt
if-later now (Some d) later = omega (arith, later)

pub if-until : (m end : ℕ) (o : Option ℕ) → m < end → IfSome o (λ d. end ≤ d) → IfSome o (λ d. m < d)
if-until m end None early until = tt
if-until m end (Some d) early until = omega (arith, early, until)

-- what stands at a place doesn't depend on what would stand beyond
pub get-any : {A : Type 0} (xs : List A) (i : ℕ) (d e : A) → i < length xs → slice_index_or xs i d ≡ slice_index_or xs i e
get-any [] i d e within = absurd (omega (arith, within))
get-any (x ∷ xs) zero d e within = refl
get-any (x ∷ xs) (suc i) d e within = get-any xs i d e (omega (arith, within))

-- one input more
pub losses-more : (inputs : List InputNow) (i now first end : ℕ) (loss : Option ℕ) (input : InputNow) → i < length inputs → input ≡ slice_index_or inputs i input
    → ((m : ℕ) → now ≤ m → m < first → (place : ℕ) (other : InputNow) → place < i
    → heard_of (slice_index_or inputs place other).last m ≡ heard_of (slice_index_or inputs place other).last now)
    → ((m : ℕ) → now ≤ m → IfSome loss (λ l. m < l) → heard_of input.last m ≡ heard_of input.last now)
    → end ≤ first → IfSome loss (λ l. end ≤ l)
    → (m : ℕ) → now ≤ m → m < end → (place : ℕ) (other : InputNow) → place < i + 1
    → heard_of (slice_index_or inputs place other).last m ≡ heard_of (slice_index_or inputs place other).last now
losses-more inputs i now first end loss input within at before one until until_loss m low high place other early = elim (dec_lt place i) [
  | yes behind ↦ before m low (omega (arith, high, until)) place other behind
  | no here ↦
      let same : place ≡ i = omega (arith, here, early) in
      let is : input ≡ slice_index_or inputs place other = at ∙ get-any inputs i input other within ∙ sym (ap-place same) in
      subst (λ k. heard_of k.last m ≡ heard_of k.last now) is (one m low (if-until m end loss high until_loss))
]
  where
    ap-place : place ≡ i → slice_index_or inputs place other ≡ slice_index_or inputs i other
    ap-place same = rw same refl
