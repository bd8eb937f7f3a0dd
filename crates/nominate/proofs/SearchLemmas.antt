-- How things stand after one more element got its count.
use Rattle.std.proofs.Common.{◌≡◌, ◌≢◌, ◌↔◌, ℕ, suc, ◌+◌, ◌<◌, ◌≤◌, ◌⊎◌, Bool, true, false, List, [], ◌∷◌, ◌++◌, length, get_or, Option, Some, None, refl, sym, ap, subst, ◌∙◌, inl, inr, arith, slice_get, slice_set, length-append}
use Rattle.std.specs.Prelude.{is_none, if◌then◌else◌, IsTrue}
use Rattle.std.specs.Option.{option_flatten}
use Rattle.std.specs.List.{All, Contains}
use Rattle.std.proofs.lemmas.Bool.{cases_eq, cases_lt, false≢true}
use Rattle.std.proofs.lemmas.List.{length-set}
use Rattle.std.proofs.lemmas.List.Elements.{All-push, All-weaker, All-nil, All-contains, Contains-push, Contains-append_left}
use Rattle.std.proofs.lemmas.List.Sums.{sum_by-set, sum_by_push}
use Rattle.std.proofs.lemmas.Option.{none-some, same_Some, slice_get-get_or}
use Rattle.sync_topo.specs.declared.input.LineId.{LineId}
use Rattle.sync_topo.specs.Topology.{Topology}
use Rattle.sync_topo.specs.Lines.{line_count, sender_of, receiver_of}
use Rattle.sync_topo.specs.WellFormed.{IsWellFormed}
use Rattle.nominate.specs.HopCount.{Counts, count_at, IsRoot}
use Rattle.sync_topo.specs.Held.{held}
use Rattle.sync_topo.specs.Outputs.{AreOutputs}
use Rattle.nominate.specs.private.Searching.{left_over, work, IsSearching, IsClose, IsLed, AreKept, AreKeptBut, IsMore}
use Rattle.std.specs.declared.alloc.Global.{Global}
use Rattle.std.specs.Prelude.{Vec}
use Rattle.nominate.specs.declared.search.HopSearch.{HopSearch}
use Rattle.nominate.specs.HopCount.{AreBounded}
use Rattle.nominate.proofs.CountLemmas.{count-set_here, count-set_there, count-push_before, count-push_last, count-within}
use Rattle.nominate.proofs.SourceLemmas.{root-within}

-- 1 where there is no count
abbrev gap : Option ℕ → ℕ
gap o = if is_none o then 1 else 0

left_over-set : (counts : Counts) (element hops : ℕ) → element < length counts → count_at counts element ≡ None
    → left_over (slice_set counts element (Some hops)) + 1 ≡ left_over counts
left_over-set counts element hops inside none =
    let at : slice_get counts element ≡ Some (get_or counts element None) = slice_get-get_or counts element None inside in
    let is : get_or counts element None ≡ None = sym (ap (λ o. option_flatten o) at) ∙ none in
    let counts_then = sum_by-set gap counts element (Some hops) None inside in
    let one : gap (get_or counts element None) ≡ 1 = rw is refl in
    omega (arith, counts_then, one)

-- the element where the line ends gets its count
pub record IsGiven (plan : Topology) (before after : HopSearch) (line : ℕ) : Type 0 where
  pub within : line < line_count plan
  pub inside : receiver_of plan line < length plan.elements
  pub of_depth : count_at before.counts.items (sender_of plan line) ≡ Some before.depth
  pub none : count_at before.counts.items (receiver_of plan line) ≡ None
  pub counts : after.counts.items ≡ slice_set before.counts.items (receiver_of plan line) (Some (before.depth + 1))
  pub current : after.current.items ≡ before.current.items
  pub next : after.next.items ≡ before.next.items ++ receiver_of plan line ∷ []
  pub depth : after.depth ≡ before.depth

module _ (plan : Topology) (before after : HopSearch) (line : ℕ) (searching : IsSearching plan before) (given : IsGiven plan before after line) where
  there : receiver_of plan line < length before.counts.items
  there = rw searching.counted given.inside

  pub here : count_at after.counts.items (receiver_of plan line) ≡ Some (suc before.depth)
  here =
      let one : before.depth + 1 ≡ suc before.depth = omega arith in
      rw given.counts (count-set_here before.counts.items (receiver_of plan line) (Some (before.depth + 1)) there ∙ ap Some one)

  others : (other : ℕ) → other ≢ receiver_of plan line → count_at after.counts.items other ≡ count_at before.counts.items other
  others other apart = rw given.counts (count-set_there before.counts.items (receiver_of plan line) other (Some (before.depth + 1)) apart)

  grows : (element hops : ℕ) → count_at before.counts.items element ≡ Some hops → count_at after.counts.items element ≡ Some hops
  grows element hops is = elim (cases_eq element (receiver_of plan line)) [
    | inl same ↦ absurd (none-some hops (sym given.none ∙ ap (count_at before.counts.items) (sym same) ∙ is))
    | inr apart ↦ others element apart ∙ is
  ]

  -- a count is the new one, or was there
  either : (element hops : ℕ) → count_at after.counts.items element ≡ Some hops
      → ((element ≡ receiver_of plan line) × (hops ≡ suc before.depth)) ⊎ (count_at before.counts.items element ≡ Some hops)
  either element hops is = elim (cases_eq element (receiver_of plan line)) [
    | inl same ↦ inl (same, same_Some hops (suc before.depth) (sym is ∙ ap (count_at after.counts.items) same ∙ here))
    | inr apart ↦ inr (sym (others element apart) ∙ is)
  ]

  less : work after ≤ work before
  less =
      let counts_then = left_over-set before.counts.items (receiver_of plan line) (before.depth + 1) there given.none in
      let now : left_over after.counts.items + 1 ≡ left_over before.counts.items = rw given.counts counts_then in
      let longer : length after.next.items ≡ length before.next.items + 1 = rw given.next (length-append before.next.items (receiver_of plan line ∷ [])) in
      let same : length after.current.items ≡ length before.current.items = ap length given.current in
      omega (arith, now, longer, same)

  searching_then : IsSearching plan after
  searching_then = record {
    counted = rw given.counts (length-set before.counts.items (receiver_of plan line) (Some (before.depth + 1)) ∙ searching.counted);
    roots = λ element root. grows element 0 (searching.roots element root);
    zeros = λ element is. elim (either element 0 is) [
      | inl new ↦ absurd (omega (arith, new.1))
      | inr was ↦ searching.zeros element was
    ];
    closer = λ element hops is. elim (either element (suc hops) is) [
      | inl new ↦
          let of : hops ≡ before.depth = omega (arith, new.1) in
          (line, given.within, sym new.0, grows (sender_of plan line) hops (given.of_depth ∙ ap Some (sym of)))
      | inr was ↦ let near = searching.closer element hops was in (near.0, near.1, near.2, grows (sender_of plan near.0) hops near.3)
    ];
    of_depth =
        rw (given.current, given.depth)
        (All-weaker (λ element. count_at before.counts.items element ≡ Some before.depth) (λ element. count_at after.counts.items element ≡ Some before.depth)
        (λ element is. grows element before.depth is) before.current.items searching.of_depth);
    deeper =
        rw (given.next, given.depth)
        (All-push (λ element. count_at after.counts.items element ≡ Some (suc before.depth)) before.next.items (receiver_of plan line)
        (All-weaker (λ element. count_at before.counts.items element ≡ Some (suc before.depth)) (λ element. count_at after.counts.items element ≡ Some (suc before.depth))
        (λ element is. grows element (suc before.depth) is) before.next.items searching.deeper) here);
    low = λ element hops is.
        let some : 0 < length after.next.items = rw given.next (omega (arith, length-append before.next.items (receiver_of plan line ∷ []))) in
        elim (either element hops is) [
          | inl new ↦ inr (new.1 ∙ ap suc (sym given.depth), some)
          | inr was ↦ elim (searching.low element hops was) [
            | inl low ↦ inl (rw given.depth low)
            | inr deep ↦ inr (deep.0 ∙ ap suc (sym given.depth), some)
          ]
        ];
    bound = let bound = searching.bound in let work_then = less in rw given.depth (omega (arith, bound, work_then));
  }

  pub IsMore-given : IsMore plan before after
  IsMore-given = record {
    searching = searching_then;
    grows = grows;
    fresh = λ element hops is. elim (either element hops is) [
      | inl new ↦ inr (rw (given.next, new.0) (Contains-push before.next.items (receiver_of plan line)))
      | inr was ↦ inl was
    ];
    still_next = λ element waits. rw given.next (Contains-append_left before.next.items (receiver_of plan line ∷ []) element waits);
    still_current = given.current;
    still_depth = given.depth;
    work = less;
  }

pub IsMore-same : (plan : Topology) (search : HopSearch) → IsSearching plan search → IsMore plan search search
IsMore-same plan search searching = record {
  searching = searching;
  grows = λ element hops is. is;
  fresh = λ element hops is. inl is;
  still_next = λ element waits. waits;
  still_current = refl;
  still_depth = refl;
  work = omega arith;
}

pub IsMore-trans : (plan : Topology) (first second third : HopSearch) → IsMore plan first second → IsMore plan second third → IsMore plan first third
IsMore-trans plan first second third one other = record {
  searching = other.searching;
  grows = λ element hops is. other.grows element hops (one.grows element hops is);
  fresh = λ element hops is. elim (other.fresh element hops is) [
    | inl was ↦ elim (one.fresh element hops was) [
      | inl before ↦ inl before
      | inr waits ↦ inr (other.still_next element waits)
    ]
    | inr waits ↦ inr waits
  ];
  still_next = λ element waits. other.still_next element (one.still_next element waits);
  still_current = other.still_current ∙ one.still_current;
  still_depth = other.still_depth ∙ one.still_depth;
  work = let a = one.work in let b = other.work in omega (arith, a, b);
}

-- what is close stays so
pub close-grows : (plan : Topology) (before after : HopSearch) (hops element : ℕ) → IsMore plan before after → IsClose before.counts.items hops element → IsClose after.counts.items hops element
close-grows plan before after hops element more close = (close.0, more.grows element close.0 close.1, close.2)

-- all lines of an element lead to what is close
pub led-by_outputs : (plan : Topology) (outputs : List (Vec LineId Global)) (own : List LineId) (counts : Counts) (element hops : ℕ)
    → AreOutputs plan (line_count plan) outputs → own ≡ held outputs element → All (λ line. IsClose counts hops (receiver_of plan line.0)) own → IsLed plan counts element hops
led-by_outputs plan outputs own counts element hops are is close line within sent =
    let among = are.each (record { 0 = line }) within in
    All-contains (λ (l : LineId). IsClose counts hops (receiver_of plan l.0)) own (record { 0 = line }) close
    (rw (is, ← sent) among)

-- one element fewer is to be looked at
pub AreKept-visited : (plan : Topology) (taken after : HopSearch) (element : ℕ) → AreKeptBut plan taken element → count_at taken.counts.items element ≡ Some taken.depth
    → IsMore plan taken after → IsLed plan after.counts.items element taken.depth → AreKept plan after
AreKept-visited plan taken after element but of_depth more led other hops is = elim (more.fresh other hops is) [
  | inl was ↦ elim (but other hops was) [
    | inl same ↦
        let of : taken.depth ≡ hops = same_Some taken.depth hops (sym of_depth ∙ ap (count_at taken.counts.items) (sym same) ∙ was) in
        inl (rw (same, ← of) led)
    | inr rest ↦ elim rest [
      | inl led_on ↦ inl (λ line within sent. close-grows plan taken after hops (receiver_of plan line) more (led_on line within sent))
      | inr waits ↦ elim waits [
        | inl now ↦ inr (inl (rw more.still_current now))
        | inr deeper ↦ inr (inr (more.still_next other deeper))
      ]
    ]
  ]
  | inr waits ↦ inr (inr waits)
]

-- the elements below n have their first counts
pub record IsStart (plan : Topology) (n : ℕ) (counts : Counts) (current : List ℕ) : Type 0 where
  pub counted : length counts ≡ n
  pub roots : (element : ℕ) → element < n → IsRoot plan element → count_at counts element ≡ Some 0
  pub zeros : (element hops : ℕ) → count_at counts element ≡ Some hops → IsRoot plan element × (hops ≡ 0)
  pub waits : (element hops : ℕ) → count_at counts element ≡ Some hops → Contains current element
  pub of_zero : All (λ element. count_at counts element ≡ Some 0) current
  pub size : left_over counts + length current ≡ n

-- a count in a longer list is the new one, or was there
last_or_before : (counts : Counts) (n element hops : ℕ) (count : Option ℕ) → length counts ≡ n → count_at (counts ++ count ∷ []) element ≡ Some hops
    → ((element ≡ n) × (count ≡ Some hops)) ⊎ (count_at counts element ≡ Some hops)
last_or_before counts n element hops count counted is = elim (cases_lt element n) [
  | inl before ↦ inr (sym (count-push_before counts element count (rw counted before)) ∙ is)
  | inr past ↦
      let inside = count-within (counts ++ count ∷ []) element hops is in
      let same : element ≡ n = omega (arith, inside, length-append counts (count ∷ []), counted, past) in
      inl (same, sym (count-push_last counts element count (same ∙ sym counted)) ∙ is)
]

pub IsStart-more : (plan : Topology) (n : ℕ) (counts : Counts) (current : List ℕ) (root : Bool) → IsTrue root ↔ IsRoot plan n → IsStart plan n counts current
    → IsStart plan (n + 1) (counts ++ (if root then Some 0 else None) ∷ []) (if root then current ++ n ∷ [] else current)
IsStart-more plan n counts current true tells start =
    let size_then = sum_by_push gap counts (Some 0) in
    record {
      counted = length-append counts (Some 0 ∷ []) ∙ ap (λ k. k + 1) start.counted;
      roots = λ element low root. elim (cases_lt element n) [
        | inl before ↦ count-push_before counts element (Some 0) (rw start.counted before) ∙ start.roots element before root
        | inr past ↦ let same : element ≡ n = omega (arith, low, past) in count-push_last counts element (Some 0) (same ∙ sym start.counted)
      ];
      zeros = λ element hops is. elim (last_or_before counts n element hops (Some 0) start.counted is) [
        | inl new ↦ (subst (IsRoot plan) (sym new.0) (tells.0 refl), sym (same_Some 0 hops new.1))
        | inr was ↦ start.zeros element hops was
      ];
      waits = λ element hops is. elim (last_or_before counts n element hops (Some 0) start.counted is) [
        | inl new ↦ subst (Contains (current ++ n ∷ [])) (sym new.0) (Contains-push current n)
        | inr was ↦ Contains-append_left current (n ∷ []) element (start.waits element hops was)
      ];
      of_zero =
          All-push (λ element. count_at (counts ++ Some 0 ∷ []) element ≡ Some 0) current n
          (All-weaker (λ element. count_at counts element ≡ Some 0) (λ element. count_at (counts ++ Some 0 ∷ []) element ≡ Some 0)
          (λ element is. count-push_before counts element (Some 0) (count-within counts element 0 is) ∙ is) current start.of_zero)
          (count-push_last counts n (Some 0) (sym start.counted));
      size = let size = start.size in omega (arith, size, size_then, length-append current (n ∷ []));
    }
IsStart-more plan n counts current false tells start =
    let size_then = sum_by_push gap counts None in
    record {
      counted = length-append counts (None ∷ []) ∙ ap (λ k. k + 1) start.counted;
      roots = λ element low root. elim (cases_lt element n) [
        | inl before ↦ count-push_before counts element None (rw start.counted before) ∙ start.roots element before root
        | inr past ↦ let same : element ≡ n = omega (arith, low, past) in absurd (false≢true (tells.1 (subst (IsRoot plan) same root)))
      ];
      zeros = λ element hops is. elim (last_or_before counts n element hops None start.counted is) [
        | inl new ↦ absurd (none-some hops new.1)
        | inr was ↦ start.zeros element hops was
      ];
      waits = λ element hops is. elim (last_or_before counts n element hops None start.counted is) [
        | inl new ↦ absurd (none-some hops new.1)
        | inr was ↦ start.waits element hops was
      ];
      of_zero =
          All-weaker (λ element. count_at counts element ≡ Some 0) (λ element. count_at (counts ++ None ∷ []) element ≡ Some 0)
          (λ element is. count-push_before counts element None (count-within counts element 0 is) ∙ is) current start.of_zero;
      size = let size = start.size in omega (arith, size, size_then);
    }

-- all elements have their first counts
pub IsSearching-start : (plan : Topology) (search : HopSearch) → IsWellFormed plan → IsStart plan (length plan.elements) search.counts.items search.current.items
    → search.next.items ≡ [] → search.depth ≡ 0 → IsSearching plan search
IsSearching-start plan search well start none zero_depth = record {
  counted = start.counted;
  roots = λ element root. start.roots element (root-within plan element well root) root;
  zeros = λ element is. (start.zeros element 0 is).0;
  closer = λ element hops is. absurd (omega (arith, (start.zeros element (suc hops) is).1));
  of_depth = rw zero_depth start.of_zero;
  deeper = rw none (All-nil (λ element. count_at search.counts.items element ≡ Some (suc search.depth)));
  low = λ element hops is. let zero_count = (start.zeros element hops is).1 in inl (omega (arith, zero_count));
  bound = let size = start.size in let empty : length search.next.items ≡ 0 = ap length none in omega (arith, size, empty, zero_depth);
}

-- where there is a count already, it is close
pub close-there : (plan : Topology) (search : HopSearch) (element hops : ℕ) → IsSearching plan search → count_at search.counts.items element ≡ Some hops
    → IsClose search.counts.items search.depth element
close-there plan search element hops searching is = elim (searching.low element hops is) [
  | inl low ↦ (hops, is, omega (arith, low))
  | inr deep ↦ let here : hops ≡ suc search.depth = deep.0 in (hops, is, omega (arith, here))
]

-- no count is above the number of elements
pub bounded-search : (plan : Topology) (search : HopSearch) → IsSearching plan search → AreBounded plan search.counts.items
bounded-search plan search searching element hops is =
    let bound = searching.bound in
    elim (searching.low element hops is) [
      | inl low ↦ omega (arith, low, bound)
      | inr deep ↦ let more : hops ≡ suc search.depth = deep.0 in let some = deep.1 in omega (arith, more, some, bound)
    ]
