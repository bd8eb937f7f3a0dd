-- The words of the command line. This project's own.
use Rattle.std.specs.Prelude.{ℕ, Bool, false, ◌&&◌, nat_lt, nat_le, List, [], ◌∷◌, length, drop, codes, Option, Some, None, option_and_then, if◌then◌else◌}
use Rattle.std.specs.Option.{option_map}
use Rattle.std.specs.Str.{bytes_eq}
use Rattle.sync_topo.specs.declared.sizes.Size.{Size}
use Rattle.sync_topo.specs.declared.sizes.Size.TheVariants.{Standard, Large}
use Rattle.sync_topo.specs.Sizes.{most_elements}
use Rattle.sync_text.specs.Number.{number_of}
use Rattle.sync_ql.specs.declared.levels.NetOption.{NetOption}
use Rattle.sync_ql.specs.declared.limits.TheConstants.{LAST_MILLISECOND}
use Rattle.plan_rows.specs.Format.{option_of}
use Rattle.sync_top.specs.declared.form.PlanForm.{PlanForm}
use Rattle.sync_top.specs.declared.form.PlanForm.TheVariants.{Rank, Chains, Protected, Protect, Agree, Hops, Nominate, PrioRank, Sweep}
use Rattle.sync_top.specs.declared.form.FileForm.{FileForm}
use Rattle.sync_top.specs.declared.form.FileForm.TheVariants.{Ranks, Groups, Events, Study}
use Rattle.sync_top.specs.declared.form.RanksForm.TheVariants.{Check, PrioCheck}
use Rattle.sync_top.specs.declared.form.EventsForm.TheVariants.{Sim, PrioSim, Inspect}
use Rattle.sync_top.specs.declared.form.FramesForm.{FramesForm}
use Rattle.sync_top.specs.declared.form.FramesForm.TheVariants.{Decode, Encode, PcapDecode, PcapEncode}
use Rattle.sync_top.specs.declared.form.LadderForm.{LadderForm}
use Rattle.sync_top.specs.declared.form.LadderForm.TheVariants.{Gen, Trial}

-- the file of a plan by its name, and the size that the words allow the plan
pub record PlanName : Type 0 where
  pub size : Size
  pub name : List ℕ

-- what the program is asked for, by what it reads, with the names of its files
pub data Form : Type 0 where
  -- of a plan
  on_plan : PlanForm → PlanName → Form
  -- of a plan and a file that goes with it
  on_file : FileForm → PlanName → List ℕ → Form
  -- of captured frames, or of rows
  on_frames : FramesForm → NetOption → List ℕ → Form
  -- of the ladder of so many elements
  on_ladder : LadderForm → ℕ → Form
  -- the frames that an element of a plan sends, by a file of what it received, up to a millisecond
  node : PlanName → List ℕ → List ℕ → ℕ → Form

-- a word that may name a file: any but the empty one
abbrev pub is_file_word : List ℕ → Bool
is_file_word word = nat_lt 0 (length word)

-- how many elements a ladder may have: as many as a plan of the size
abbrev pub is_ladder_size : Size → ℕ → Bool
is_ladder_size size n = nat_le 2 n && nat_le n (most_elements size)

-- such a number, if the word is one
abbrev pub ladder_size : Size → List ℕ → Option ℕ
ladder_size size word = option_and_then sized (number_of word)
  where
    sized : ℕ → Option ℕ
    sized n = if is_ladder_size size n then Some n else None

-- a millisecond up to the last one, if the word is one
abbrev pub millisecond_of : List ℕ → Option ℕ
millisecond_of word = option_and_then up_to (number_of word)
  where
    up_to : ℕ → Option ℕ
    up_to t = if nat_le t LAST_MILLISECOND then Some t else None

-- what a word asks of a plan
abbrev pub plan_word : List ℕ → Option PlanForm
plan_word word =
    if bytes_eq word (codes "rank") then Some Rank
    else if bytes_eq word (codes "chains") then Some Chains
    else if bytes_eq word (codes "protected") then Some Protected
    else if bytes_eq word (codes "protect") then Some Protect
    else if bytes_eq word (codes "agree") then Some Agree
    else if bytes_eq word (codes "hops") then Some Hops
    else if bytes_eq word (codes "nominate") then Some Nominate
    else if bytes_eq word (codes "prio-rank") then Some PrioRank
    else None

-- what a word asks of a ladder
abbrev pub ladder_word : List ℕ → Option LadderForm
ladder_word word =
    if bytes_eq word (codes "gen") then Some Gen
    else if bytes_eq word (codes "trial") then Some Trial
    else None

-- what a word asks of a plan and a file
abbrev pub file_word : List ℕ → Option FileForm
file_word word =
    if bytes_eq word (codes "check") then Some (Ranks Check)
    else if bytes_eq word (codes "prio-check") then Some (Ranks PrioCheck)
    else if bytes_eq word (codes "protected") then Some Groups
    else None

-- what a word asks of a plan, a file and a millisecond
abbrev pub run_word : List ℕ → ℕ → Option FileForm
run_word word until =
    if bytes_eq word (codes "sim") then Some (Events Sim until)
    else if bytes_eq word (codes "prio-sim") then Some (Events PrioSim until)
    else if bytes_eq word (codes "inspect") then Some (Events Inspect until)
    else if bytes_eq word (codes "study") then Some (Study until)
    else None

-- what a word asks of captured frames or rows
abbrev pub frames_word : List ℕ → Option FramesForm
frames_word word =
    if bytes_eq word (codes "decode") then Some Decode
    else if bytes_eq word (codes "encode") then Some Encode
    else if bytes_eq word (codes "pcap-decode") then Some PcapDecode
    else if bytes_eq word (codes "pcap-encode") then Some PcapEncode
    else None

-- the same where plans may be of a size: frames and rows go with no plan, so that none are asked for where it is large
abbrev pub frames_word_in : Size → List ℕ → Option FramesForm
frames_word_in Standard word = frames_word word
frames_word_in Large word = None

-- a form on a plan, if the word may name its file; on a ladder, if the word is such a number
abbrev pub form_of_two : Size → Option PlanForm → Option LadderForm → List ℕ → Option Form
form_of_two size (Some what) ladder second = if is_file_word second then Some (on_plan what (record { size = size; name = second })) else None
form_of_two size None (Some what) second = option_map (on_ladder what) (ladder_size size second)
form_of_two size None None second = None

-- a form on a plan and a file, if both words may name files
abbrev pub file_form : Size → FileForm → List ℕ → List ℕ → Option Form
file_form size what plan name = if is_file_word plan && is_file_word name then Some (on_file what (record { size = size; name = plan }) name) else None

-- a form on a plan and a file; on captured frames, if the words are an option and one that may name a file
abbrev pub form_of_three : Size → Option FileForm → Option FramesForm → List ℕ → List ℕ → Option Form
form_of_three size (Some what) frames second third = file_form size what second third
form_of_three size None (Some what) second third =
    if is_file_word third then option_map (λ option. on_frames what option third) (option_of second) else None
form_of_three size None None second third = None

-- the form `sweep`, if the word may name a file and is followed by two milliseconds up to the last one, the first of
-- them not the later
abbrev pub sweep_form : Size → List ℕ → List ℕ → List ℕ → Option Form
sweep_form size plan at_word until_word = if is_file_word plan then option_and_then from (number_of at_word) else None
  where
    up_to : ℕ → ℕ → Option Form
    up_to at until = if nat_le at until then Some (on_plan (Sweep at until) (record { size = size; name = plan })) else None

    from : ℕ → Option Form
    from at = option_and_then (up_to at) (millisecond_of until_word)

-- a form on a plan and a file, up to a millisecond up to the last one; or `sweep`
abbrev pub form_of_four : Size → List ℕ → List ℕ → List ℕ → List ℕ → Option Form
form_of_four size word second third fourth =
    if bytes_eq word (codes "sweep") then sweep_form size second third fourth else option_and_then asked (millisecond_of fourth)
  where
    asked : ℕ → Option Form
    asked until = option_and_then (λ what. file_form size what second third) (run_word word until)

-- the form `node`, if its first and third word may name files and are followed by a millisecond up to the last one; the
-- element's word may be any
abbrev pub node_form : Size → List ℕ → List ℕ → List ℕ → List ℕ → Option Form
node_form size plan element name word =
    if is_file_word plan && is_file_word name then option_map (node (record { size = size; name = plan }) element name) (millisecond_of word) else None

-- the form of the words where plans may be of a size, if they have one
abbrev pub form_in : Size → List (List ℕ) → Option Form
form_in size (word ∷ second ∷ []) = form_of_two size (plan_word word) (ladder_word word) second
form_in size (word ∷ second ∷ third ∷ []) = form_of_three size (file_word word) (frames_word_in size word) second third
form_in size (word ∷ second ∷ third ∷ fourth ∷ []) = form_of_four size word second third fourth
form_in size (word ∷ second ∷ third ∷ fourth ∷ fifth ∷ []) =
    if bytes_eq word (codes "node") then node_form size second third fourth fifth else None
form_in size _ = None

-- the first word allows large plans
abbrev pub are_large : List (List ℕ) → Bool
are_large [] = false
are_large (word ∷ rest) = bytes_eq word (codes "large")

-- the form of the words, if they have one: plans may be large where the first word says so, and then the others are the form
abbrev pub form_of : List (List ℕ) → Option Form
form_of words = if are_large words then form_in Large (drop 1 words) else form_in Standard words
