-- The rows of a group file that are gone through, one more and all.
use Rattle.std.proofs.Common.{◌≡◌, ◌≢◌, ◌≤◌, ◌<◌, ◌+◌, ℕ, Bool, true, false, List, [], ◌∷◌, ◌++◌, length, map, Option, Some, None, slice_get, refl, sym, ap, subst, arith, ◌∙◌, append_assoc, append-nil, length-append}
use Rattle.std.specs.Prelude.{◌&&◌, Ok, Err, if◌then◌else◌}
use Rattle.std.specs.Str.{bytes_eq}
use Rattle.std.proofs.lemmas.Bool.{true≢false, lt-ltb, le-ltb}
use Rattle.std.proofs.lemmas.List.{map-append, length-map}
use Rattle.std.proofs.lemmas.Option.{same_Some, none-some}
use Rattle.sync_text.specs.Chain.{unless}
use Rattle.sync_text.specs.declared.errors.NoAnswer.{NoAnswer}
use Rattle.sync_text.specs.Gives.{IfRefusal, Refuses}
use Rattle.sync_text.proofs.Failures.{refused-more}
use Rattle.csv_records.proofs.FirstRefusals.{first_refusal-some, first_refusal-none}
use Rattle.sync_topo.specs.Topology.{Topology}
use Rattle.sync_topo.specs.Sizes.{event_limit}
use Rattle.sync_topo.specs.Names.{is_name, is_named, place_of}
use Rattle.sync_topo.proofs.Lists.{is_named-at, position-push, place_of-fresh, slice_get-push_last}
use Rattle.event_file.specs.Rows.{Fields}
use Rattle.event_file.specs.CaseRows.{case_in, case_before, is_apart}
use Rattle.event_file.specs.CaseText.{names_of}
use Rattle.event_file.proofs.CaseNames.{itself, differ, apart, case_before-more, names_of-more, names_of-named}
use Rattle.reach_rules.specs.declared.group.Group.{Group}
use Rattle.reach_rules.specs.Protection.{is_among}
use Rattle.group_file.specs.declared.error.GroupErr.{GroupErr}
use Rattle.group_file.specs.declared.error.GroupErr.TheVariants as refusal
use Rattle.group_file.specs.declared.kind.Kind.{Kind}
use Rattle.group_file.specs.declared.kind.Kind.TheVariants.{Link, Source, Element}
use Rattle.group_file.specs.declared.parts.PartsSoFar.{PartsSoFar}
use Rattle.group_file.specs.declared.progress.GroupsSoFar.{GroupsSoFar}
use Rattle.group_file.specs.Kinds.{kind_of, is_same_kind, part_of_name}
use Rattle.group_file.specs.Rows.{three_of, part_in, parts_in, rows_of, row_refusal, refusal_at}
use Rattle.group_file.specs.GroupText.{group_of, groups_in, groups_of_rows}
use Rattle.group_file.specs.private.PartsTaken.{listed_in, HasRoom, group_with}
use Rattle.group_file.specs.private.GroupsTaken.{with_current, names_with, IsLast, IsCurrent, AreSorted, AreGroupsTaken, HasBegun, AreGroupsLeft}
use Rattle.group_file.proofs.RowLaws.{rows_of-none, parts-here, groups-other, three_row, name-some, sound-more, refusal-before, refusal-here}

never : (b : Bool) → (b && false) ≡ false
never true = refl
never false = refl

-- the names so far are those of the rows so far
names-are : (plan : Topology) (done : List Fields) (kept : GroupsSoFar) → AreGroupsTaken plan done kept → kept.names ≡ names_of done
names-are plan done kept taken = taken.all_names ∙ rw (itself (case_before done)) (append-nil (names_of done))

-- the last of the names is that of the group that is read
module _ (plan : Topology) (done : List Fields) (names : List (List ℕ)) (whole : List Group) (name : List ℕ) (parts : PartsSoFar) where
  whole-count : (current : List ℕ) (last : IsLast plan done names whole name parts current) → length whole ≡ length last.front
  whole-count current last = ap length last.closed ∙ length-map last.front (group_of plan done)

  last-there : (current : Option (List ℕ)) (other : List ℕ) (place : ℕ) → IsCurrent plan done names whole name parts current
      → slice_get names place ≡ Some other → place ≡ length whole → other ≡ name
  last-there None other place here at end = absurd (none-some other (sym (ap (λ list. slice_get list place) here.0) ∙ at))
  last-there (Some current) other place here at end =
      let last : slice_get (here.front ++ name ∷ []) place ≡ Some name = slice_get-push_last here.front name place (end ∙ whole-count current here) in
      same_Some other name (sym at ∙ ap (λ list. slice_get list place) here.split ∙ last)

  -- and stands nowhere before
  last-alone : (current : Option (List ℕ)) (other : List ℕ) (place : ℕ) → IsCurrent plan done names whole name parts current
      → place_of names other ≡ Some place → place ≢ length whole → other ≢ name
  last-alone None other place here at differs same = none-some place (sym (ap (λ list. place_of list other) here.0) ∙ at)
  last-alone (Some current) other place here at differs same =
      let last : place_of (here.front ++ name ∷ []) name ≡ Some (length here.front)
      = position-push (bytes_eq name) here.front name ∙ rw (place_of-fresh here.front name here.other, itself name) refl in
      differs
      (same_Some place (length here.front) (sym at ∙ ap (place_of names) same ∙ ap (λ list. place_of list name) here.split ∙ last)
      ∙ sym (whole-count current here))

  -- a new name is none of them
  new-differs : (current : Option (List ℕ)) (other : List ℕ) → IsCurrent plan done names whole name parts current → bytes_eq other [] ≡ false
      → is_named names other ≡ false → other ≢ name
  new-differs None other here some fresh same = apart other [] some (same ∙ here.2)
  new-differs (Some current) other here some fresh same =
      let there : slice_get names (length here.front) ≡ Some name
      = ap (λ list. slice_get list (length here.front)) here.split ∙ slice_get-push_last here.front name (length here.front) refl in
      true≢false (sym (is_named-at names other (length here.front) (there ∙ ap Some (sym same))) ∙ fresh)

  -- the group that is read is what its rows gave
  group-given : (current : List ℕ) → IsLast plan done names whole name parts current → group_with parts current ≡ group_of plan done name
  group-given current last = rw (last.same, last.given Link, last.given Source, last.given Element) refl

  -- all groups so far, with the one that is read
  all-groups : (current : Option (List ℕ)) → IsCurrent plan done names whole name parts current → with_current whole parts current ≡ map (group_of plan done) names
  all-groups None here = here.1 ∙ ap (map (group_of plan done)) (sym here.0)
  all-groups (Some current) here =
      ap (λ list. list ++ group_with parts current ∷ []) here.closed
      ∙ ap (λ one. map (group_of plan done) here.front ++ one ∷ []) (group-given current here)
      ∙ sym (map-append (group_of plan done) here.front (name ∷ []))
      ∙ ap (map (group_of plan done)) (sym here.split)

-- a row of the group of the row before it, of one that stood before, or of a new one
module _ (plan : Topology) (done : List Fields) (name : List ℕ) (kept : GroupsSoFar) (taken : AreGroupsTaken plan done kept) where
  abbrev before : List ℕ
  before = case_before done

  pub goes_on-stands : (place : ℕ) → slice_get kept.names place ≡ Some name → place ≡ length kept.whole → AreSorted plan done name kept
  goes_on-stands place at end =
      subst (λ other. AreSorted plan done other kept)
      (sym (last-there plan done kept.names kept.whole (case_before done) kept.parts kept.current name place taken.here at end)) taken

  pub goes_on-together : (place : ℕ) → slice_get kept.names place ≡ Some name → place ≡ length kept.whole → is_apart done name ≡ false
  goes_on-together place at end =
      let same = last-there plan done kept.names kept.whole (case_before done) kept.parts kept.current name place taken.here at end in
      rw (same, itself (case_before done)) (never (is_named (map case_in done) (case_before done)))

  pub apart-is : (place : ℕ) → is_name name ≡ true → place_of kept.names name ≡ Some place → is_named kept.names name ≡ true → place ≢ length kept.whole
      → is_apart done name ≡ true
  apart-is place is at named differs =
      let other = last-alone plan done kept.names kept.whole (case_before done) kept.parts kept.current name place taken.here at differs in
      let stood : is_named (map case_in done) name ≡ true
      = sym (names_of-named done name (name-some name is)) ∙ ap (λ names. is_named names name) (sym (names-are plan done kept taken)) ∙ named in
      rw (stood, differ name (case_before done) other) refl

  fresh-is : is_name name ≡ true → is_named kept.names name ≡ false → is_named (map case_in done) name ≡ false
  fresh-is is fresh =
      sym (names_of-named done name (name-some name is)) ∙ ap (λ names. is_named names name) (sym (names-are plan done kept taken)) ∙ fresh

  pub fresh-together : is_name name ≡ true → is_named kept.names name ≡ false → is_apart done name ≡ false
  fresh-together is fresh = rw (fresh-is is fresh) refl

  pub begun-stands : (after : GroupsSoFar) → is_name name ≡ true → is_named kept.names name ≡ false → HasBegun name kept after → AreSorted plan done name after
  begun-stands after is fresh begun =
      let none : rows_of done name ≡ [] = rows_of-none done name (fresh-is is fresh) in
      let differs : bytes_eq name (case_before done) ≡ false
      = differ name (case_before done) (new-differs plan done kept.names kept.whole (case_before done) kept.parts kept.current name taken.here (name-some name is) fresh) in
      record {
        numbered = begun.rows ∙ taken.numbered;
        few = subst (λ n. n ≤ event_limit plan) (sym begun.rows) taken.few;
        sound = taken.sound;
        all_names = begun.names ∙ ap (λ list. list ++ name ∷ []) (names-are plan done kept taken) ∙ rw differs refl;
        room = begun.room plan taken.room;
        here = subst (IsCurrent plan done after.names after.whole name after.parts) (sym begun.current) (record {
          front = kept.names;
          split = begun.names;
          other = fresh;
          closed = begun.whole ∙ all-groups plan done kept.names kept.whole (case_before done) kept.parts kept.current taken.here;
          same = refl;
          given = λ kind. begun.none kind ∙ ap (parts_in plan kind) (sym none);
        });
      }

-- the rule that the next row breaks
pub limit-broken : (plan : Topology) (done : List Fields) (kept : GroupsSoFar) (row : Fields) → AreGroupsTaken plan done kept → event_limit plan < kept.rows + 1
    → row_refusal plan done (length done + 1) row ≡ Some refusal.Limit
unfolding row_refusal
limit-broken plan done kept row taken many =
    let numbered = taken.numbered in
    rw (lt-ltb (event_limit plan) (length done + 1) (omega (arith, many, numbered))) refl

pub fields-broken : (plan : Topology) (done : List Fields) (kept : GroupsSoFar) (row : Fields) → AreGroupsTaken plan done kept → kept.rows + 1 ≤ event_limit plan
    → None ≡ three_of row → row_refusal plan done (length done + 1) row ≡ Some (refusal.Fields (kept.rows + 1))
unfolding row_refusal
fields-broken plan done kept row taken few none =
    let numbered = taken.numbered in
    rw (le-ltb (event_limit plan) (length done + 1) (omega (arith, few, numbered)), ← none, numbered) refl

-- the row has three fields, the first of which is the name of its group
module _ (plan : Topology) (done : List Fields) (row : Fields) (name kind part : List ℕ) (fields : Some (name, kind, part) ≡ three_of row) (rows : ℕ)
    (numbered : rows ≡ length done) (few : rows + 1 ≤ event_limit plan) where
  by_fields : row ≡ name ∷ kind ∷ part ∷ []
  by_fields = three_row row name kind part (sym fields)

  within : length done + 1 ≤ event_limit plan
  within = omega (arith, few, numbered)

  pub name-broken : is_name name ≡ false → row_refusal plan done (length done + 1) row ≡ Some (refusal.Name (rows + 1))
  unfolding row_refusal
  name-broken other = rw (by_fields, le-ltb (event_limit plan) (length done + 1) within, other, numbered) refl

  module _ (is : is_name name ≡ true) where
    pub apart-broken : (failed : NoAnswer GroupErr) → IfRefusal failed (λ error. (is_apart done name ≡ true) × (error ≡ refusal.Apart (rows + 1)))
        → IfRefusal failed (λ error. row_refusal plan done (length done + 1) row ≡ Some error)
    unfolding row_refusal
    apart-broken failed stood =
        let of_row : is_apart done name ≡ true → row_refusal plan done (length done + 1) row ≡ Some (refusal.Apart (rows + 1))
        = λ apart. rw (by_fields, le-ltb (event_limit plan) (length done + 1) within, is, apart, numbered) refl in
        refused-more failed (λ error parts. of_row parts.0 ∙ ap Some (sym parts.1)) stood

    module _ (together : is_apart done name ≡ false) where
      pub kind-broken : None ≡ kind_of kind → row_refusal plan done (length done + 1) row ≡ Some (refusal.Kind (rows + 1))
      unfolding row_refusal
      kind-broken none = rw (by_fields, le-ltb (event_limit plan) (length done + 1) within, is, together, ← none, numbered) refl

      module _ (kind_is : Kind) (of_kind : Some kind_is ≡ kind_of kind) where
        pub part-broken : None ≡ part_of_name plan kind_is part → row_refusal plan done (length done + 1) row ≡ Some (refusal.Part (rows + 1))
        unfolding row_refusal
        part-broken none =
            rw (by_fields, le-ltb (event_limit plan) (length done + 1) within, is, together, ← of_kind, ← none, numbered) refl

        module _ (number : ℕ) (of_part : Some number ≡ part_of_name plan kind_is part) where
          pub repeated-broken : is_among (parts_in plan kind_is (rows_of done name)) number ≡ true
              → row_refusal plan done (length done + 1) row ≡ Some (refusal.Part (rows + 1))
          unfolding row_refusal
          repeated-broken stood =
              rw (by_fields, le-ltb (event_limit plan) (length done + 1) within, is, together, ← of_kind, ← of_part, stood, numbered) refl

          none-broken : is_among (parts_in plan kind_is (rows_of done name)) number ≡ false → row_refusal plan done (length done + 1) row ≡ None
          unfolding row_refusal
          none-broken fresh = rw (by_fields, le-ltb (event_limit plan) (length done + 1) within, is, together, ← of_kind, ← of_part, fresh) refl

          part-is : part_in plan row ≡ Some (kind_is, number)
          part-is = rw (by_fields, ← of_kind, ← of_part) refl

          row-named : case_in row ≡ name
          row-named = ap case_in by_fields

          own : bytes_eq name (case_in row) ≡ true
          own = rw row-named (itself name)

          names-more : names_with (done ++ row ∷ []) name ≡ names_with done name
          names-more =
              let last : case_before (done ++ row ∷ []) ≡ name = case_before-more done row ∙ row-named in
              let none : names_with (done ++ row ∷ []) name ≡ names_of (done ++ row ∷ []) = rw (last, itself name) (append-nil (names_of (done ++ row ∷ []))) in
              none ∙ names_of-more done row ∙ ap (λ other. names_of done ++ (if bytes_eq other (case_before done) then [] else other ∷ [])) row-named

          -- the parts of its group, with this one more
          current-more : (names : List (List ℕ)) (whole : List Group) (parts after : PartsSoFar) (current : Option (List ℕ))
              → ((other : Kind) → listed_in after other ≡ listed_in parts other ++ (if is_same_kind kind_is other then number ∷ [] else []))
              → IsCurrent plan done names whole name parts current → IsCurrent plan (done ++ row ∷ []) names whole name after current
          current-more names whole parts after None put here = here
          current-more names whole parts after (Some current) put here = record {
            front = here.front;
            split = here.split;
            other = here.other;
            closed = here.closed ∙ sym (groups-other plan done row here.front (rw row-named here.other));
            same = here.same;
            given = λ other.
                put other ∙ ap (λ list. list ++ (if is_same_kind kind_is other then number ∷ [] else [])) (here.given other)
                ∙ sym (parts-here plan done row name kind_is other number own part-is);
          }

          pub row-taken : (kept : GroupsSoFar) (after : PartsSoFar) → AreSorted plan done name kept → HasRoom plan after
              → is_among (parts_in plan kind_is (rows_of done name)) number ≡ false
              → ((other : Kind) → listed_in after other ≡ listed_in kept.parts other ++ (if is_same_kind kind_is other then number ∷ [] else []))
              → AreGroupsTaken plan (done ++ row ∷ []) (record kept { rows = rows + 1; parts = after })
          row-taken kept after sorted room fresh put =
              let size : length (done ++ row ∷ []) ≡ length done + 1 = length-append done (row ∷ []) in
              subst (λ other. AreSorted plan (done ++ row ∷ []) other (record kept { rows = rows + 1; parts = after }))
              (sym (case_before-more done row ∙ row-named)) (record {
                numbered = ap (λ n. n + 1) numbered ∙ sym size;
                few = few;
                sound = sound-more plan done row sorted.sound (none-broken fresh);
                all_names = sorted.all_names ∙ sym names-more;
                room = room;
                here = current-more kept.names kept.whole kept.parts after kept.current put sorted.here;
              })

-- the parts of the group that is read are those of its rows, once it has a name
pub listed-are : (plan : Topology) (done : List Fields) (name : List ℕ) (kept : GroupsSoFar) (kind : Kind) → is_name name ≡ true → AreSorted plan done name kept
    → listed_in kept.parts kind ≡ parts_in plan kind (rows_of done name)
listed-are plan done name kept kind is sorted = by kept.current sorted.here
  where
    by : (current : Option (List ℕ)) → IsCurrent plan done kept.names kept.whole name kept.parts current → listed_in kept.parts kind ≡ parts_in plan kind (rows_of done name)
    by None here = absurd (apart name [] (name-some name is) here.2)
    by (Some current) here = here.given kind

-- one more row
pub AreGroupsLeft-more : (plan : Topology) (rows : List Fields) (row : Fields) (rest : List Fields) (kept after : GroupsSoFar) → AreGroupsLeft plan rows (row ∷ rest) kept
    → ((done : List Fields) → AreGroupsTaken plan done kept → AreGroupsTaken plan (done ++ row ∷ []) after) → AreGroupsLeft plan rows rest after
AreGroupsLeft-more plan rows row rest kept after left taken = record {
  done = left.done ++ row ∷ [];
  parts = left.parts ∙ sym (append_assoc left.done (row ∷ []) rest);
  taken = taken left.done left.taken;
}

-- the first row that breaks a rule is the refusal of all
pub groups_refused : (plan : Topology) (rows : List Fields) (row : Fields) (rest : List Fields) (kept : GroupsSoFar) (failed : NoAnswer GroupErr)
    → AreGroupsLeft plan rows (row ∷ rest) kept
    → ((done : List Fields) → AreGroupsTaken plan done kept → IfRefusal failed (λ error. row_refusal plan done (length done + 1) row ≡ Some error))
    → Refuses failed (groups_of_rows plan rows)
groups_refused plan rows row rest kept failed left broken = refused-more failed answer (broken left.done left.taken)
  where
    within : length left.done < length rows
    within =
        let size : length (left.done ++ row ∷ rest) ≡ length left.done + length (row ∷ rest) = length-append left.done (row ∷ rest) in
        rw (left.parts, size) (omega arith)

    sound : (place : ℕ) → place < length left.done → refusal_at plan rows place ≡ None
    sound place before =
        ap (λ list. refusal_at plan list place) left.parts ∙ refusal-before plan left.done (row ∷ rest) place before ∙ left.taken.sound place before

    answer : (error : GroupErr) → row_refusal plan left.done (length left.done + 1) row ≡ Some error → groups_of_rows plan rows ≡ Err error
    answer error is =
        ap (λ found. unless found (groups_in plan rows))
        (first_refusal-some (refusal_at plan rows) (length rows) (length left.done) error within
        (ap (λ list. refusal_at plan list (length left.done)) left.parts ∙ refusal-here plan left.done row rest ∙ is) sound)

-- where no row is left, none broke a rule, and the groups are those of all
pub groups_given : (plan : Topology) (rows : List Fields) (kept : GroupsSoFar) → AreGroupsLeft plan rows [] kept
    → groups_of_rows plan rows ≡ Ok (with_current kept.whole kept.parts kept.current)
groups_given plan rows kept left =
    let all : rows ≡ left.done = left.parts ∙ append-nil left.done in
    let names : kept.names ≡ names_of left.done = names-are plan left.done kept left.taken in
    let same : with_current kept.whole kept.parts kept.current ≡ groups_in plan left.done
    = all-groups plan left.done kept.names kept.whole (case_before left.done) kept.parts kept.current left.taken.here ∙ ap (map (group_of plan left.done)) names in
    ap (groups_of_rows plan) all
    ∙ ap (λ found. unless found (groups_in plan left.done)) (first_refusal-none (refusal_at plan left.done) (length left.done) left.taken.sound)
    ∙ ap Ok (sym same)
