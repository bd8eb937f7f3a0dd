-- The levels that are kept are of the plan's option, and the lines are lines of the plan.
use Rattle.std.proofs.Common.{◌≡◌, ◌<◌, ◌-◌, ℕ, Bool, true, false, List, [], ◌∷◌, map, Option, None, Some, IfSome, refl, sym, subst, arith}
use Rattle.std.specs.Prelude.{nat_lt, nat_eq, ◌==◌, if◌then◌else◌}
use Rattle.std.specs.List.{All, cons_option, range_with_len}
use Rattle.std.specs.Option.{option_or}
use Rattle.sync_text.specs.Each.{Each}
use Rattle.sync_text.proofs.Each.{all-each, Each-map, Each-made, Each-unmade, Each-range, Each-filter}
use Rattle.sync_ql.specs.declared.levels.NetOption.{NetOption}
use Rattle.sync_ql.specs.declared.levels.Level.{Level}
use Rattle.sync_ql.specs.Told.{IsOfOption}
use Rattle.sync_topo.specs.declared.input.InputId.{InputId}
use Rattle.sync_topo.specs.declared.input.InputId.TheVariants.{Line, Source}
use Rattle.sync_topo.specs.declared.event.What.{What}
use Rattle.sync_topo.specs.declared.event.What.TheVariants.{Down, Up, EsmcOff, EsmcOn, SourceLevel, Lockout, Unlock, Forced, Manual, Clear, ClearWtr}
use Rattle.sync_topo.specs.Topology.{Topology}
use Rattle.sync_topo.specs.Events.{MayHappen}
use Rattle.sync_topo.specs.Lines.{line_count, sender_of}
use Rattle.net_rules.specs.Signals.{last_word, says_level}
use Rattle.node_file.specs.declared.row.NodeWord.{NodeWord}
use Rattle.node_file.specs.declared.row.NodeWord.TheVariants.{Frame, Happens}
use Rattle.node_file.specs.declared.row.NodeRow.{NodeRow}
use Rattle.node_file.specs.NodeRow.{IsRowOf, IsWordOf, events_in, frames_on}
use Rattle.node_replay.specs.declared.inputs.LastLevel.{LastLevel}
use Rattle.node_replay.specs.declared.inputs.InputNow.{InputNow}
use Rattle.node_replay.specs.declared.lines_out.LineOut.{LineOut}
use Rattle.node_rules.specs.Replay.{last_of}
use Rattle.node_rules.specs.NodeText.{lines_out}
use Rattle.node_replay.specs.Keeping.{word_or, said_in}
use Rattle.node_replay.specs.private.Keeping.{heard_of, said_or, last_after, level_after, up_then, last_then, input_after, row_says}
use Rattle.node_replay.specs.private.Running.{IsKeptOf}
use Rattle.node_replay.proofs.RowWords.{word-more}

-- the levels of frames, and those said of a source, are of the plan's option
frames-fit : (plan : Topology) (element line : ℕ) (here : List NodeRow) → Each (IsRowOf plan element) here → Each (IsOfOption plan.option) (frames_on line here)
frames-fit plan element line [] each = tt
frames-fit plan element line (row ∷ rows) each = by row.at row.word each.0.1 (frames-fit plan element line rows each.1)
  where
    kept : (b : Bool) (level : Option Level) → IsOfOption plan.option level → Each (IsOfOption plan.option) (frames_on line rows)
        → Each (IsOfOption plan.option) (cons_option (if b then Some level else None) (frames_on line rows))
    kept true level fits rest = (fits, rest)
    kept false level fits rest = rest

    by : (at : ℕ) (word : NodeWord) → IsWordOf plan element word → Each (IsOfOption plan.option) (frames_on line rows)
        → Each (IsOfOption plan.option) (frames_on line (record { at = at; word = word } ∷ rows))
    by at (Frame other level) is rest = kept (nat_eq line other.0) level is.1 rest
    by at (Happens what) is rest = rest

last-fits : (option : NetOption) (xs : List (Option Level)) → Each (IsOfOption option) xs → IfSome (last_of xs) (IsOfOption option)
last-fits option [] each = tt
last-fits option (x ∷ []) each = each.0
last-fits option (x ∷ y ∷ ys) each = last-fits option (y ∷ ys) each.1

or-fits : (P : Level → Type 0) (a b : Option Level) → IfSome a P → IfSome b P → IfSome (option_or a b) P
or-fits P None b a_is b_is = b_is
or-fits P (Some x) b a_is b_is = a_is

what-fits : (plan : Topology) (source : ℕ) (what : What) → MayHappen plan what → IfSome (says_level source what) (λ level. level.option ≡ plan.option)
what-fits plan source (Down part) may = tt
what-fits plan source (Up part) may = tt
what-fits plan source (EsmcOff line) may = tt
what-fits plan source (EsmcOn line) may = tt
what-fits plan source (SourceLevel other level) may = by (nat_eq source other)
  where
    by : (b : Bool) → IfSome (if b then Some level else None) (λ level. level.option ≡ plan.option)
    by true = may.1
    by false = tt
what-fits plan source (Lockout input) may = tt
what-fits plan source (Unlock input) may = tt
what-fits plan source (Forced input) may = tt
what-fits plan source (Manual input) may = tt
what-fits plan source (Clear other) may = tt
what-fits plan source (ClearWtr input) may = tt

word-fits : (plan : Topology) (element source at : ℕ) (word : NodeWord) → IsWordOf plan element word
    → IfSome (row_says (says_level source) (record { at = at; word = word })) (λ level. level.option ≡ plan.option)
word-fits plan element source at (Frame line level) is = tt
word-fits plan element source at (Happens what) is = what-fits plan source what is.1

said-fits : (plan : Topology) (element source : ℕ) (here : List NodeRow) → Each (IsRowOf plan element) here
    → IfSome (last_word (says_level source) (events_in here)) (λ level. level.option ≡ plan.option)
said-fits plan element source [] each = tt
said-fits plan element source (row ∷ rows) each =
    subst (λ o. IfSome o (λ level. level.option ≡ plan.option)) (sym (word-more (says_level source) row rows))
    (or-fits (λ level. level.option ≡ plan.option) (last_word (says_level source) (events_in rows)) (row_says (says_level source) row)
    (said-fits plan element source rows each.1) (word-fits plan element source row.at row.word each.0.1))

-- the word that is kept, and the level that is told
word-or-fits : (option : NetOption) (word : Option (Option Level)) (last : Option LastLevel) (t : ℕ) → IfSome word (IsOfOption option)
    → IfSome last (λ w. IsOfOption option w.level) → IfSome (word_or word last t) (λ w. IsOfOption option w.level)
word-or-fits option None last t word_is last_is = last_is
word-or-fits option (Some level) last t word_is last_is = word_is

said-or-fits : (option : NetOption) (said : Option Level) (last : Option LastLevel) (t : ℕ) → IfSome said (λ level. level.option ≡ option)
    → IfSome last (λ w. IsOfOption option w.level) → IfSome (said_or said last t) (λ w. IsOfOption option w.level)
said-or-fits option None last t said_is last_is = last_is
said-or-fits option (Some level) last t said_is last_is = said_is

heard-fits : (option : NetOption) (last : Option LastLevel) (t : ℕ) → IfSome last (λ w. IsOfOption option w.level) → IsOfOption option (heard_of last t)
unfolding heard_of
heard-fits option None t is = tt
heard-fits option (Some word) t is = by (nat_lt (t - word.at) 5000)
  where
    by : (b : Bool) → IsOfOption option (if b then word.level else None)
    by true = is
    by false = tt

said-in-fits : (option : NetOption) (last : Option LastLevel) → IfSome last (λ w. IsOfOption option w.level) → IsOfOption option (said_in last)
said-in-fits option None is = tt
said-in-fits option (Some word) is = is

level-fits : (option : NetOption) (id : InputId) (up : Bool) (last : Option LastLevel) (level : Option Level) (t : ℕ)
    → IfSome last (λ w. IsOfOption option w.level) → IsOfOption option level → IsOfOption option (level_after id up last level t)
level-fits option (Line line) up last level t last_is level_is = heard-fits option last t last_is
level-fits option (Source source) true last level t last_is level_is = said-in-fits option last last_is
level-fits option (Source source) false last level t last_is level_is = level_is

last-after-fits : (plan : Topology) (element : ℕ) (id : InputId) (up : Bool) (last : Option LastLevel) (here : List NodeRow) (t : ℕ) → Each (IsRowOf plan element) here
    → IfSome last (λ w. IsOfOption plan.option w.level) → IfSome (last_after id up last here t) (λ w. IsOfOption plan.option w.level)
last-after-fits plan element (Line line) true last here t each is =
    word-or-fits plan.option (last_of (frames_on line.0 here)) last t (last-fits plan.option (frames_on line.0 here) (frames-fit plan element line.0 here each)) is
last-after-fits plan element (Line line) false last here t each is = is
last-after-fits plan element (Source source) up last here t each is =
    said-or-fits plan.option (last_word (says_level source) (events_in here)) last t (said-fits plan element source here each) is

kept-after : (plan : Topology) (element : ℕ) (here : List NodeRow) (t : ℕ) (input : InputNow) → Each (IsRowOf plan element) here
    → IsKeptOf plan.option input → IsKeptOf plan.option (input_after here t input)
unfolding input_after
kept-after plan element here t input each is =
    let last = last-after-fits plan element input.id (up_then here input) input.last here t each is.last in record {
      level = level-fits plan.option input.id (up_then here input) (last_then here t input) input.level t last is.level;
      last = last;
    }

pub kept-all : (plan : Topology) (element : ℕ) (here : List NodeRow) (t : ℕ) (inputs : List InputNow) → Each (IsRowOf plan element) here
    → Each (IsKeptOf plan.option) inputs → Each (IsKeptOf plan.option) (map (input_after here t) inputs)
kept-all plan element here t inputs each is =
    Each-made (IsKeptOf plan.option) (input_after here t) inputs
    (Each-map (IsKeptOf plan.option) (λ input. IsKeptOf plan.option (input_after here t input)) (λ input kept. kept-after plan element here t input each kept) inputs is)

-- an input stays the one that it is
id-after : (here : List NodeRow) (t : ℕ) (input : InputNow) → (input_after here t input).id ≡ input.id
unfolding input_after
id-after here t input = refl

pub ids-after : (here : List NodeRow) (t : ℕ) (inputs : List InputNow) → map (λ input. input.id) (map (input_after here t) inputs) ≡ map (λ input. input.id) inputs
ids-after here t [] = refl
ids-after here t (input ∷ inputs) = rw (id-after here t input, ids-after here t inputs) refl

-- each line out of the element is one of the plan, and begins there
pub out-line : (plan : Topology) (place : ℕ) → Each (λ line. (line < line_count plan) × ((sender_of plan line == place) ≡ true)) (lines_out plan place)
out-line plan place =
    Each-filter (λ line. line < line_count plan) (λ line. sender_of plan line == place) (range_with_len 0 (line_count plan))
    (Each-range (λ line. line < line_count plan) 0 (line_count plan) (λ k low high. omega (arith, high)))

pub outs-lines : (plan : Topology) (place : ℕ) (outs : List LineOut) → map (λ out. out.line.0) outs ≡ lines_out plan place
    → Each (λ (out : LineOut). (out.line.0 < line_count plan) × ((sender_of plan out.line.0 == place) ≡ true)) outs
outs-lines plan place outs lines =
    Each-unmade (λ line. (line < line_count plan) × ((sender_of plan line == place) ≡ true)) (λ (out : LineOut). out.line.0) outs
    (subst (Each (λ line. (line < line_count plan) × ((sender_of plan line == place) ≡ true))) (sym lines) (out-line plan place))

pub lines-within : (plan : Topology) (place : ℕ) (outs : List LineOut) → map (λ out. out.line.0) outs ≡ lines_out plan place
    → All (λ (out : LineOut). out.line.0 < line_count plan) outs
lines-within plan place outs lines =
    all-each (λ (out : LineOut). out.line.0 < line_count plan) outs
    (Each-map (λ (out : LineOut). (out.line.0 < line_count plan) × ((sender_of plan out.line.0 == place) ≡ true)) (λ (out : LineOut). out.line.0 < line_count plan) (λ out is. is.0) outs
    (outs-lines plan place outs lines))
