-- There is one history that obeys the rules, and it looks back alone.
use Rattle.std.proofs.Common.{◌≡◌, ◌≤◌, ◌<◌, ℕ, zero, suc, ◌∷◌, length, Some, refl, ap, sym, ◌∙◌, arith}
use Rattle.sync_text.proofs.Each.{Each-map}
use Rattle.sync_ql.proofs.SameMoments.{line_moment, input_moment, moment}
use Rattle.sync_ql.specs.Pasts.{past_of}
use Rattle.sync_ql.specs.Messages.{heard_at}
use Rattle.sync_ql.proofs.Delivered.{heard_at-head}
use Rattle.sync_topo.specs.declared.input.InputId.{InputId}
use Rattle.sync_topo.specs.declared.input.InputId.TheVariants.{Line, Source}
use Rattle.sync_topo.specs.Topology.{Topology}
use Rattle.sync_topo.specs.Lines.{line_count, line_input, sender_of, receiver_of, delay_of, inputs_of, IsNominated}
use Rattle.sync_topo.proofs.LineLaws.{IsNominated-within}
use Rattle.net_rules.specs.Signals.{Signals}
use Rattle.net_rules.specs.Inputs.{IsInputOf}
use Rattle.net_rules.specs.Sameness.{IsSameUntil}
use Rattle.net_rules.specs.History.{Levels, line_moment_at, heard, input_level, moment_at, element_past, sent_by, sent_level, Obeys, rounds, out_at}
use Rattle.net_rules.specs.Settings.{input_by}
use Rattle.net_rules.proofs.Lists.{map-same, past-same}
use Rattle.net_rules.proofs.InputLaws.{inputs-are}

-- messages take at least one millisecond on each nominated line
abbrev pub IsDelayed : Topology → Type 0
IsDelayed plan = (line : ℕ) → IsNominated plan line → 1 ≤ delay_of plan line

-- two histories send the same on nominated lines before a millisecond
abbrev pub AgreeBefore : Topology → ℕ → Levels → Levels → Type 0
AgreeBefore plan t out other = (line s : ℕ) → IsNominated plan line → s < t → out line s ≡ other line s

-- the same commands to an element up to a millisecond
abbrev SameCommands : ℕ → ℕ → Signals → Signals → Type 0
SameCommands element t signals others = (s : ℕ) → s ≤ t → signals.commands element s ≡ others.commands element s

-- what comes from outside to nominated inputs is the same up to a millisecond
pub record SameInputs (plan : Topology) (signals others : Signals) (t : ℕ) : Type 0 where
  pub up : (input : InputId) (s element : ℕ) → IsInputOf plan element input → s ≤ t → signals.up input s ≡ others.up input s
  pub clear : (input : InputId) (s element : ℕ) → IsInputOf plan element input → s ≤ t → signals.clear input s ≡ others.clear input s
  pub esmc : (line s : ℕ) → IsNominated plan line → s ≤ t → signals.esmc line s ≡ others.esmc line s
  pub source_level : (source s element : ℕ) → IsInputOf plan element (Source source) → s ≤ t → signals.source_level source s ≡ others.source_level source s

pub same_inputs : (plan : Topology) (signals : Signals) (t : ℕ) → SameInputs plan signals signals t
same_inputs plan signals t = record {
  up = λ input s element is until. refl;
  clear = λ input s element is until. refl;
  esmc = λ line s nominated until. refl;
  source_level = λ source s element is until. refl;
}

sooner : (plan : Topology) (signals others : Signals) (t s : ℕ) → s ≤ t → SameInputs plan signals others t → SameInputs plan signals others s
sooner plan signals others t s early same = record {
  up = λ input u element is until. same.up input u element is (omega (arith, early, until));
  clear = λ input u element is until. same.clear input u element is (omega (arith, early, until));
  esmc = λ line u nominated until. same.esmc line u nominated (omega (arith, early, until));
  source_level = λ source u element is until. same.source_level source u element is (omega (arith, early, until));
}

pub line-input_of : (plan : Topology) (line : ℕ) → IsNominated plan line → IsInputOf plan (receiver_of plan line) (line_input line)
line-input_of plan line nominated = record { has = IsNominated-within plan line nominated; nominated = nominated; of_element = refl }

-- the level heard on a line up to t, where the levels sent before t are the same
pub heard-same : (plan : Topology) → IsDelayed plan → (signals others : Signals) (out other : Levels) (t line s : ℕ) → s ≤ t
    → SameInputs plan signals others t → AgreeBefore plan t out other → IsNominated plan line
    → heard plan signals out line s ≡ heard plan others other line s
unfolding heard
heard-same plan delayed signals others out other t line s until same agree nominated =
    let of = line-input_of plan line nominated in
    let before : past_of (line_moment_at signals out line) s ≡ past_of (line_moment_at others other line) s =
    past-same (line_moment_at signals out line) (line_moment_at others other line) s
    (λ u early. line_moment _ _ _ _ _ _ (same.up (line_input line) u (receiver_of plan line) of (omega (arith, until, early)))
    (same.esmc line u nominated (omega (arith, until, early))) (agree line u nominated (omega (arith, until, early)))) in
    heard_at-head (delay_of plan line) (line_moment_at signals out line s) (line_moment_at others other line s) (past_of (line_moment_at signals out line) s)
    (delayed line nominated) (same.up (line_input line) s (receiver_of plan line) of until)
    ∙ ap (λ past. heard_at (delay_of plan line) (line_moment_at others other line s ∷ past)) before

-- an input in a millisecond up to t is the same
input-same : (plan : Topology) → IsDelayed plan → (signals others : Signals) (out other : Levels) (t element s : ℕ) → s ≤ t
    → SameInputs plan signals others t → AgreeBefore plan t out other → (input : InputId) → IsInputOf plan element input
    → input_by signals (input_level signals (heard plan signals out)) s input ≡ input_by others (input_level others (heard plan others other)) s input
input-same plan delayed signals others out other t element s until same agree (Line line) is =
    input_moment _ _ _ _ _ _ (same.up (Line line) s element is until) (same.clear (Line line) s element is until)
    (heard-same plan delayed signals others out other t line.0 s until same agree is.nominated)
input-same plan delayed signals others out other t element s until same agree (Source source) is =
    input_moment _ _ _ _ _ _ (same.up (Source source) s element is until) (same.clear (Source source) s element is until)
    (ap Some (same.source_level source s element is until))

-- so an element's milliseconds up to t are the same
pub moment-same : (plan : Topology) → IsDelayed plan → (signals others : Signals) (out other : Levels) (t element s : ℕ) → s ≤ t
    → SameInputs plan signals others t → SameCommands element t signals others → AgreeBefore plan t out other
    → moment_at plan signals (heard plan signals out) element s ≡ moment_at plan others (heard plan others other) element s
unfolding moment_at
moment-same plan delayed signals others out other t element s until same commands agree =
    moment _ _ _ _
    (map-same (input_by signals (input_level signals (heard plan signals out)) s) (input_by others (input_level others (heard plan others other)) s) (inputs_of plan element)
    (Each-map (IsInputOf plan element) _ (input-same plan delayed signals others out other t element s until same agree) (inputs_of plan element) (inputs-are plan element)))
    (commands s until)

pub element-past-same : (plan : Topology) → IsDelayed plan → (signals others : Signals) (out other : Levels) (t element n : ℕ) → n ≤ suc t
    → SameInputs plan signals others t → SameCommands element t signals others → AgreeBefore plan t out other
    → element_past plan signals out element n ≡ element_past plan others other element n
element-past-same plan delayed signals others out other t element n until same commands agree =
    past-same (moment_at plan signals (heard plan signals out) element) (moment_at plan others (heard plan others other) element) n
    (λ s early. moment-same plan delayed signals others out other t element s (omega (arith, until, early)) same commands agree)

pub sent-same : (plan : Topology) → IsDelayed plan → (signals others : Signals) (out other : Levels) (t line : ℕ)
    → SameInputs plan signals others t → SameCommands (sender_of plan line) t signals others → AgreeBefore plan t out other
    → sent_level plan signals out line t ≡ sent_level plan others other line t
unfolding sent_level
sent-same plan delayed signals others out other t line same commands agree =
    ap (sent_by plan line) (element-past-same plan delayed signals others out other t (sender_of plan line) (suc t) (omega arith) same commands agree)

-- the rules applied more often give the same
pub rounds-same : (plan : Topology) → IsDelayed plan → (signals : Signals) (m n line t : ℕ) → t < m → t < n
    → rounds plan signals m line t ≡ rounds plan signals n line t
rounds-same plan delayed signals zero n line t low high = absurd (omega (arith, low))
rounds-same plan delayed signals (suc m) zero line t low high = absurd (omega (arith, high))
rounds-same plan delayed signals (suc m) (suc n) line t low high =
    sent-same plan delayed signals signals (rounds plan signals m) (rounds plan signals n) t line (same_inputs plan signals t) (λ s until. refl)
    (λ other s nominated early. rounds-same plan delayed signals m n other s (omega (arith, low, early)) (omega (arith, high, early)))

-- each level sent is that of the rules, on every line
pub out_at-sent : (plan : Topology) → IsDelayed plan → (signals : Signals) (line t : ℕ)
    → out_at plan signals line t ≡ sent_level plan signals (out_at plan signals) line t
unfolding out_at
out_at-sent plan delayed signals line t =
    sent-same plan delayed signals signals (rounds plan signals t) (out_at plan signals) t line (same_inputs plan signals t) (λ s until. refl)
    (λ other s nominated early. rounds-same plan delayed signals t (suc s) other s early (omega arith))

-- and no other history obeys
only_before : (plan : Topology) → IsDelayed plan → (signals : Signals) (out : Levels) → Obeys plan signals out
    → (n line t : ℕ) → t < n → line < line_count plan → out line t ≡ out_at plan signals line t
only_before plan delayed signals out obeys zero line t early within = absurd (omega (arith, early))
only_before plan delayed signals out obeys (suc n) line t early within =
    obeys line t within
    ∙ sent-same plan delayed signals signals out (out_at plan signals) t line (same_inputs plan signals t) (λ s until. refl)
    (λ other s nominated before. only_before plan delayed signals out obeys n other s (omega (arith, early, before)) (IsNominated-within plan other nominated))
    ∙ sym (out_at-sent plan delayed signals line t)

pub only_one : (plan : Topology) → IsDelayed plan → (signals : Signals) (out : Levels) → Obeys plan signals out
    → (line t : ℕ) → line < line_count plan → out line t ≡ out_at plan signals line t
only_one plan delayed signals out obeys line t within = only_before plan delayed signals out obeys (suc t) line t (omega arith) within

-- it looks back alone
until_before : (plan : Topology) → IsDelayed plan → ((line : ℕ) → line < line_count plan → sender_of plan line < length plan.elements)
    → (signals others : Signals) (end : ℕ) → SameInputs plan signals others end
    → ((element : ℕ) → element < length plan.elements → SameCommands element end signals others)
    → (n line t : ℕ) → t < n → t ≤ end → line < line_count plan → out_at plan signals line t ≡ out_at plan others line t
until_before plan delayed senders signals others end same commands zero line t early until within = absurd (omega (arith, early))
until_before plan delayed senders signals others end same commands (suc n) line t early until within =
    out_at-sent plan delayed signals line t
    ∙ sent-same plan delayed signals others (out_at plan signals) (out_at plan others) t line (sooner plan signals others end t until same)
    (λ s sooner_still. commands (sender_of plan line) (senders line within) s (omega (arith, until, sooner_still)))
    (λ other s nominated before. until_before plan delayed senders signals others end same commands n other s (omega (arith, early, before)) (omega (arith, until, before)) (IsNominated-within plan other nominated))
    ∙ sym (out_at-sent plan delayed others line t)

pub same_inputs-until : (plan : Topology) (signals others : Signals) (t : ℕ) → IsSameUntil plan t signals others → SameInputs plan signals others t
same_inputs-until plan signals others t same = record {
  up = λ input s element is until. same.up input s is.has is.nominated until;
  clear = λ input s element is until. same.clear input s is.has is.nominated until;
  esmc = same.esmc;
  source_level = λ source s element is until. same.source_level source s is.has is.nominated until;
}

pub until_same : (plan : Topology) → IsDelayed plan → ((line : ℕ) → line < line_count plan → sender_of plan line < length plan.elements)
    → (signals others : Signals) (t : ℕ) → IsSameUntil plan t signals others
    → (line s : ℕ) → line < line_count plan → s ≤ t → out_at plan signals line s ≡ out_at plan others line s
until_same plan delayed senders signals others t same line s within until =
    until_before plan delayed senders signals others t (same_inputs-until plan signals others t same)
    (λ element inside u early. same.commands element u inside early) (suc s) line s (omega arith) until within
