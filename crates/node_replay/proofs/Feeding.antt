-- Bytes that are fed: the lines are read, and the replay stands for their rows.
use Rattle.std.proofs.Common.{suc, ◌≡◌, ◌≤◌, ℕ, List, [], ◌∷◌, ◌++◌, ◌<◌, ◌+◌, true, false, length, take, drop, Option, None, Some, Err, refl, arith, subst, sym, ap, ◌∙◌}
use Rattle.std.proofs.lemmas.Bool.{true≢false}
use Rattle.std.proofs.lemmas.Bool.Decides.{nat_tests}
use Rattle.std.proofs.lemmas.List.{append_assoc, append-nil, take-append-drop, length-append}
use Rattle.node_file.specs.declared.error.NodeErr.{NodeErr}
use Rattle.std.specs.Prelude.{◌==◌, IfSome, MatchOption}
use Rattle.sync_text.specs.Each.{Each}
use Rattle.sync_topo.specs.Topology.{Topology}
use Rattle.node_file.specs.declared.row.NodeRow.{NodeRow}
use Rattle.node_file.specs.NodeRow.{IsRowOf}
use Rattle.node_file.specs.Cutting.{LinesRead, HaveRead, AreRefused, with_row, time_after}
use Rattle.node_replay.specs.Rows.{AreInOrder, IsRowList}
use Rattle.node_replay.specs.ReplayState.{ReplayState, StandsFor}
use Rattle.node_file.specs.NodeFile.{rows_of}
use Rattle.node_replay.specs.declared.replayed.Replayed.{Replayed}
use Rattle.node_replay.specs.Replayed.{IsReplayed}
use Rattle.node_replay.specs.Sent.{IsSentText}
use Rattle.node_replay.specs.NodeState.{NodeState, AreFed, WasFed}

each_more : {A : Type 0} → (P : A → Type 0) (xs : List A) (x : A) → Each P xs → P x → Each P (xs ++ x ∷ [])
each_more P [] x all is = (is, tt)
each_more P (y ∷ ys) x all is = (all.0, each_more P ys x all.1 is)

each_also : {A : Type 0} → (P Q : A → Type 0) (xs : List A) → ((x : A) → P x → Q x) → Each P xs → Each Q xs
each_also P Q [] then all = tt
each_also P Q (x ∷ xs) then all = (then x all.0, each_also P Q xs then all.1)

in_order_more : (rows : List NodeRow) (row : NodeRow) → AreInOrder rows → Each (λ r. r.at ≤ row.at) rows → AreInOrder (rows ++ row ∷ [])
in_order_more [] row ordered before = (tt, tt)
in_order_more (r ∷ rows) row ordered before = (each_more (λ later. r.at ≤ later.at) rows row ordered.0 before.0, in_order_more rows row ordered.1 before.1)

-- rows with one more that isn't before them
listed_more : (plan : Topology) (element before : ℕ) (rows : List NodeRow) (row : Option NodeRow) → IsRowList plan element rows → Each (λ r. r.at ≤ before) rows
    → IfSome row (IsRowOf plan element) → IfSome row (λ r. before ≤ r.at) → IsRowList plan element (with_row rows row)
listed_more plan element before rows None listed all fits later = listed
listed_more plan element before rows (Some row) listed all fits later = record {
  each = each_more (IsRowOf plan element) rows row listed.each fits;
  in_order = in_order_more rows row listed.in_order (each_also (λ r. r.at ≤ before) (λ r. r.at ≤ row.at) rows (λ r is. omega (arith, is, later)) all);
}

before_more : (before : ℕ) (rows : List NodeRow) (row : Option NodeRow) → Each (λ r. r.at ≤ before) rows → IfSome row (λ r. before ≤ r.at)
    → Each (λ r. r.at ≤ time_after before row) (with_row rows row)
before_more before rows None all later = all
before_more before rows (Some row) all later =
    each_more (λ r. r.at ≤ row.at) rows row (each_also (λ r. r.at ≤ before) (λ r. r.at ≤ row.at) rows (λ r is. omega (arith, is, later)) all) (omega (arith))

-- before the first byte
pub fed_nothing : (lines : LinesRead) (replay : ReplayState) → HaveRead lines [] [] → StandsFor replay [] → AreFed lines replay []
fed_nothing lines replay read stands = record { rows = []; read = read; stands = stands; listed = record { each = tt; in_order = tt }; before = tt }

-- bytes more were read, and gave a row or none, which was taken
pub fed_more : (lines lines_then : LinesRead) (replay replay_then : ReplayState) (bytes : List ℕ) (row : Option NodeRow) (rows : List NodeRow)
    → lines_then.plan ≡ lines.plan → lines_then.element ≡ lines.element → IsRowList lines.plan lines.element rows → Each (λ r. r.at ≤ lines.before) rows
    → IfSome row (IsRowOf lines.plan lines.element) → IfSome row (λ r. lines.before ≤ r.at) → lines_then.before ≡ time_after lines.before row
    → HaveRead lines_then bytes (with_row rows row) → StandsFor replay_then (with_row rows row) → AreFed lines_then replay_then bytes
fed_more lines lines_then replay replay_then bytes row rows same_plan same_element listed all fits later before read stands = record {
  rows = with_row rows row;
  read = read;
  stands = stands;
  listed = rw (same_plan, same_element) (listed_more lines.plan lines.element lines.before rows row listed all fits later);
  before = rw (before) (before_more lines.before rows row all later);
}

-- the bytes of a piece up to and with its first line feed, or all of it
pub fed_line : {A : Type 0} → (now : A → List ℕ) (rest : Option A) (lines lines_then : LinesRead) (replay replay_then : ReplayState) (row : Option NodeRow) (bytes piece : List ℕ)
    → lines_then.plan ≡ lines.plan → lines_then.element ≡ lines.element → replay.plan ≡ lines.plan → replay.element ≡ lines.element
    → (rest ≡ None → row ≡ None) → IfSome row (IsRowOf lines.plan lines.element) → IfSome row (λ r. lines.before ≤ r.at) → lines_then.before ≡ time_after lines.before row
    → ((read : List ℕ) (rows : List NodeRow) → HaveRead lines read rows →
    MatchOption rest (HaveRead lines_then (read ++ piece) rows) (λ left. (front : List ℕ) × (piece ≡ front ++ now left) × HaveRead lines_then (read ++ front) (with_row rows row)))
    → ((rows : List NodeRow) → StandsFor replay rows → IsRowList replay.plan replay.element (with_row rows row) → StandsFor replay_then (with_row rows row))
    → AreFed lines replay bytes
    → MatchOption rest (AreFed lines_then replay_then (bytes ++ piece)) (λ left. (front : List ℕ) × (piece ≡ front ++ now left) × AreFed lines_then replay_then (bytes ++ front))
fed_line now None lines lines_then replay replay_then None bytes piece plan element same_plan same_element none fits later before read stands fed =
    fed_more lines lines_then replay replay_then (bytes ++ piece) None fed.rows plan element fed.listed fed.before fits later before (read bytes fed.rows fed.read)
    (stands fed.rows fed.stands (rw (same_plan, same_element) fed.listed))
fed_line now None lines lines_then replay replay_then (Some row) bytes piece plan element same_plan same_element none fits later before read stands fed =
    absurd (let no = none refl in cc)
fed_line now (Some left) lines lines_then replay replay_then row bytes piece plan element same_plan same_element none fits later before read stands fed =
    let given = read bytes fed.rows fed.read in (
      given.0,
      given.1,
      fed_more lines lines_then replay replay_then (bytes ++ given.0) row fed.rows plan element fed.listed fed.before fits later before given.2
          (stands fed.rows fed.stands (rw (same_plan, same_element) (listed_more lines.plan lines.element lines.before fed.rows row fed.listed fed.before fits later))),
    )

-- with the row of the last line the replay stands for all rows
pub stands_whole : (lines : LinesRead) (replay replay_then : ReplayState) (bytes : List ℕ) (row : Option NodeRow) (fed : AreFed lines replay bytes)
    → replay.plan ≡ lines.plan → replay.element ≡ lines.element → IfSome row (IsRowOf lines.plan lines.element) → IfSome row (λ r. lines.before ≤ r.at)
    → ((rows : List NodeRow) → StandsFor replay rows → IsRowList replay.plan replay.element (with_row rows row) → StandsFor replay_then (with_row rows row))
    → StandsFor replay_then (with_row fed.rows row)
stands_whole lines replay replay_then bytes row fed same_plan same_element fits later stands =
    stands fed.rows fed.stands (rw (same_plan, same_element) (listed_more lines.plan lines.element lines.before fed.rows row fed.listed fed.before fits later))

-- from where a piece began to where what is left of it begins
pub record FedSoFar {A : Type 0} (now : A → List ℕ) (lines : LinesRead) (replay : ReplayState) (piece : List ℕ) (lines_then : LinesRead) (replay_then : ReplayState) (left : Option A) : Type 0 where
  pub plan : lines_then.plan ≡ lines.plan
  pub element : lines_then.element ≡ lines.element
  pub replay_plan : replay_then.plan ≡ replay.plan
  pub replay_element : replay_then.element ≡ replay.element
  pub until : replay_then.until ≡ replay.until
  pub live : replay_then.spent ≡ false
  pub room : MatchOption left (lines_then.ended ≤ lines.ended + length piece) (λ l. lines_then.ended + length (now l) ≤ lines.ended + length piece)
  pub fed : (bytes : List ℕ) → AreFed lines replay bytes
      → MatchOption left (AreFed lines_then replay_then (bytes ++ piece)) (λ l. (front : List ℕ) × (piece ≡ front ++ now l) × AreFed lines_then replay_then (bytes ++ front))

-- what a line of what is left changes
pub room_on : {A : Type 0} → (now : A → List ℕ) (most before after here : ℕ) (rest : Option A) → before + here ≤ most → MatchOption rest (after ≡ before) (λ l. after ≡ before + 1)
    → IfSome rest (λ l. length (now l) < here) → MatchOption rest (after ≤ most) (λ l. after + length (now l) ≤ most)
room_on now most before after here None room ended shorter = omega (arith, room, ended)
room_on now most before after here (Some l) room ended shorter = omega (arith, room, ended, shorter)

pub fed_on : {A : Type 0} → (now : A → List ℕ) (lines : LinesRead) (replay : ReplayState) (bytes front here piece : List ℕ) (rest : Option A) → piece ≡ front ++ here
    → MatchOption rest (AreFed lines replay ((bytes ++ front) ++ here)) (λ l. (more : List ℕ) × (here ≡ more ++ now l) × AreFed lines replay ((bytes ++ front) ++ more))
    → MatchOption rest (AreFed lines replay (bytes ++ piece)) (λ l. (whole : List ℕ) × (piece ≡ whole ++ now l) × AreFed lines replay (bytes ++ whole))
fed_on now lines replay bytes front here piece None is fed = subst (AreFed lines replay) (append_assoc bytes front here ∙ ap (λ rest. bytes ++ rest) (sym is)) fed
fed_on now lines replay bytes front here piece (Some l) is fed = (
  front ++ fed.0,
  is ∙ ap (λ rest. front ++ rest) fed.1 ∙ sym (append_assoc front fed.0 (now l)),
  subst (AreFed lines replay) (append_assoc bytes front fed.0) fed.2,
)

-- a refusal of what is left is one of the piece
pub refused_on : (plan other : Topology) (element one : ℕ) (error : NodeErr) (bytes front here piece : List ℕ) → plan ≡ other → element ≡ one → piece ≡ front ++ here
    → AreRefused plan element ((bytes ++ front) ++ here) error → AreRefused other one (bytes ++ piece) error
refused_on plan other element one error bytes front here piece same_plan same_element is refused =
    rw (← same_plan, ← same_element) (subst (λ all. AreRefused plan element all error) (append_assoc bytes front here ∙ ap (λ rest. bytes ++ rest) (sym is)) refused)

-- a front of a file was fed, and the rest is left
pub record FedFront (plan : Topology) (element until : ℕ) (bytes : List ℕ) (node : NodeState) (left : List ℕ) : Type 0 where
  pub plan_is : node.lines.plan ≡ plan
  pub element_is : node.lines.element ≡ element
  pub until_is : node.replay.until ≡ until
  pub live : node.spent ≡ false
  pub room : node.lines.ended + length left ≤ length bytes
  pub front : List ℕ
  pub cut : bytes ≡ front ++ left
  pub fed : WasFed node front

-- a piece of what is left is refused, so the file is
pub refused_front : (plan : Topology) (element until : ℕ) (bytes : List ℕ) (node : NodeState) (left piece : List ℕ) (n : ℕ) (error : NodeErr) (so_far : FedFront plan element until bytes node left)
    → piece ≡ take n left → AreRefused node.lines.plan node.lines.element (so_far.front ++ piece) error → rows_of plan element bytes ≡ Err error
refused_front plan element until bytes node left piece n error so_far is refused =
    let whole : bytes ≡ (so_far.front ++ piece) ++ drop n left = so_far.cut ∙ ap (λ rest. so_far.front ++ rest) (sym (take-append-drop n left)) ∙ sym (append_assoc so_far.front (take n left) (drop n left)) ∙ ap (λ p. (so_far.front ++ p) ++ drop n left) (sym is) in
    ap (λ p. rows_of p element bytes) (sym so_far.plan_is) ∙ ap (λ e. rows_of node.lines.plan e bytes) (sym so_far.element_is) ∙ ap (rows_of node.lines.plan node.lines.element) whole ∙ refused.whole (drop n left)

-- it is taken
pub front_on : (plan : Topology) (element until : ℕ) (bytes : List ℕ) (node after : NodeState) (left piece rest : List ℕ) (n : ℕ) (so_far : FedFront plan element until bytes node left)
    → piece ≡ take n left → rest ≡ drop n left → after.lines.plan ≡ node.lines.plan → after.lines.element ≡ node.lines.element → after.replay.until ≡ node.replay.until → after.spent ≡ false
    → after.lines.ended ≤ node.lines.ended + length piece → WasFed after (so_far.front ++ piece) → FedFront plan element until bytes after rest
front_on plan element until bytes node after left piece rest n so_far is rest_is same_plan same_element same_until live ended fed =
    let split : piece ++ rest ≡ left = ap (λ p. p ++ rest) is ∙ ap (λ r. take n left ++ r) rest_is ∙ take-append-drop n left in
    let sizes : length piece + length rest ≡ length left = sym (length-append piece rest) ∙ ap length split in
    record {
      plan_is = same_plan ∙ so_far.plan_is;
      element_is = same_element ∙ so_far.element_is;
      until_is = same_until ∙ so_far.until_is;
      live = live;
      room = omega (arith, ended, so_far.room, sizes);
      front = so_far.front ++ piece;
      cut = so_far.cut ∙ ap (λ r. so_far.front ++ r) (sym split) ∙ sym (append_assoc so_far.front piece rest);
      fed = fed;
    }

some_left : (n : ℕ) → (suc n == 0) ≡ false
some_left n = grind (arith, nat_tests)

-- nothing is left
pub whole_fed : (plan : Topology) (element until : ℕ) (bytes : List ℕ) (node : NodeState) (left : List ℕ) → FedFront plan element until bytes node left → true ≡ (length left == 0) → WasFed node bytes
whole_fed plan element until bytes node [] so_far none = subst (WasFed node) (sym (so_far.cut ∙ append-nil so_far.front)) so_far.fed
whole_fed plan element until bytes node (byte ∷ left) so_far none = absurd (true≢false (none ∙ some_left (length left)))

pub ended_for : (plan other : Topology) (element one until end : ℕ) (rows : List NodeRow) (replayed : Replayed) → plan ≡ other → element ≡ one → until ≡ end
    → IsReplayed plan element until rows replayed → IsReplayed other one end rows replayed
ended_for plan other element one until end rows replayed same_plan same_element same_until is = rw (← same_plan, ← same_element, ← same_until) is

pub sent_for : (plan other : Topology) (element one until end : ℕ) (bytes : List ℕ) (replayed : Replayed) → plan ≡ other → element ≡ one → until ≡ end
    → IsSentText plan element bytes until replayed → IsSentText other one bytes end replayed
sent_for plan other element one until end bytes replayed same_plan same_element same_until is = rw (← same_plan, ← same_element, ← same_until) is
