-- Laws of frames: what a reader answers, and that a written frame is read back.
use Rattle.std.proofs.Common.{◌≡◌, ◌↔◌, ℕ, ◌<◌, ◌≤◌, ◌%◌, Bool, true, false, not, ◌||◌, nat_lt, nat_eq, cond, List, [], ◌∷◌, length, Option, Some, None, Result, Ok, IfSome, refl, ap, subst, ◌∙◌, arith}
use Rattle.std.specs.Str.{bytes_eq}
use Rattle.std.proofs.lemmas.Slice.Eq.{bytes_eq-Decides}
use Rattle.std.proofs.lemmas.Bool.Decides.{nat_tests}
use Rattle.esmc_frame.specs.declared.frame.Pdu.{Pdu}
use Rattle.esmc_frame.specs.declared.frame.Extended.{Extended}
use Rattle.esmc_frame.specs.declared.error.FrameErr.{FrameErr}
use Rattle.esmc_frame.specs.Parts.{extended_tlv_of, extended_tlv_head, enhanced_code_of, clock_of, flags_of, eeecs_of, eecs_of}
use Rattle.esmc_frame.specs.Frame.{Spells, SpellsExtended, written_frame}
use Rattle.esmc_frame.specs.Reading.{first_wrong, reading_of, unless_wrong, value_of, extended_of}

-- a search that finds nothing has passed its first element
passed : (wrong : Bool) (error : FrameErr) (later : Option FrameErr) → cond wrong (Some error) later ≡ None → (wrong ≡ false) × (later ≡ None)
passed true error later h = cc
passed false error later h = (refl, h)

-- a part that isn't wrong has its octets
same_octets : (found wanted : List ℕ) → not (bytes_eq found wanted) ≡ false → found ≡ wanted
same_octets found wanted h = grind (arith, bytes_eq-Decides found wanted)

same_number : (found wanted : ℕ) → not (nat_eq found wanted) ≡ false → found ≡ wanted
same_number found wanted h = grind (arith, nat_tests)

in_range : (octets : ℕ) → (nat_lt octets 60 || nat_lt 1514 octets) ≡ false → (60 ≤ octets) × (octets ≤ 1514)
in_range octets h = grind (arith, nat_tests)

-- a value is answered only where nothing is refused
answered : (refusal : Option FrameErr) (value pdu : Pdu) → Ok pdu ≡ unless_wrong refusal value → (refusal ≡ None) × (pdu ≡ value)
answered None value pdu h = (refl, cc)
answered (Some error) value pdu h = cc

-- the fields that stand behind type and length
abbrev fields_at : List ℕ → Extended
fields_at frame = record { code = enhanced_code_of frame; clock = clock_of frame; flags = flags_of frame; eeecs = eeecs_of frame; eecs = eecs_of frame }

-- the extended QL TLV that is read is the one that the octets have, or none where they have none
spells_tested : (frame : List ℕ) (has : Bool) → bytes_eq (extended_tlv_of frame) extended_tlv_head ≡ has → SpellsExtended frame (cond has (Some (fields_at frame)) None)
spells_tested frame true is = record { tlv = (bytes_eq-Decides (extended_tlv_of frame) extended_tlv_head).0 is; code = refl; clock = refl; flags = refl; eeecs = refl; eecs = refl }
spells_tested frame false is = λ same. let has = (bytes_eq-Decides (extended_tlv_of frame) extended_tlv_head).1 same in cc

extended_spelled : (frame : List ℕ) → SpellsExtended frame (extended_of frame)
extended_spelled frame = spells_tested frame (bytes_eq (extended_tlv_of frame) extended_tlv_head) refl

-- and no other
only_tested : (frame : List ℕ) (has : Bool) → bytes_eq (extended_tlv_of frame) extended_tlv_head ≡ has → (extended : Option Extended) → SpellsExtended frame extended → cond has (Some (fields_at frame)) None ≡ extended
only_tested frame true is None spelled = absurd (spelled ((bytes_eq-Decides (extended_tlv_of frame) extended_tlv_head).0 is))
only_tested frame true is (Some extended) spelled = rw (spelled.code, spelled.clock, spelled.flags, spelled.eeecs, spelled.eecs) refl
only_tested frame false is None spelled = refl
only_tested frame false is (Some extended) spelled = let has = (bytes_eq-Decides (extended_tlv_of frame) extended_tlv_head).1 spelled.tlv in cc

only_extended : (frame : List ℕ) (extended : Option Extended) → SpellsExtended frame extended → extended_of frame ≡ extended
only_extended frame extended spelled = only_tested frame (bytes_eq (extended_tlv_of frame) extended_tlv_head) refl extended spelled

-- where nothing is wrong, the octets spell the value in their fields
fields_spelled : (frame : List ℕ) → first_wrong frame ≡ None → Spells frame (value_of frame)
fields_spelled frame none =
    let length = passed _ _ _ none in
    let destination = passed _ _ _ length.1 in
    let ethertype = passed _ _ _ destination.1 in
    let subtype = passed _ _ _ ethertype.1 in
    let oui = passed _ _ _ subtype.1 in
    let itu_subtype = passed _ _ _ oui.1 in
    let version = passed _ _ _ itu_subtype.1 in
    let tlv = passed _ _ _ version.1 in
    record {
      at_least = (in_range _ length.0).0;
      at_most = (in_range _ length.0).1;
      destination = same_octets _ _ destination.0;
      source = refl;
      ethertype = same_octets _ _ ethertype.0;
      subtype = same_octets _ _ subtype.0;
      oui = same_octets _ _ oui.0;
      itu_subtype = same_octets _ _ itu_subtype.0;
      version = same_number _ _ version.0;
      event = refl;
      tlv = same_octets _ _ tlv.0;
      code = refl;
      extended = extended_spelled frame;
    }

-- octets spell no other value than that in their fields
only_value : (frame : List ℕ) (pdu : Pdu) → Spells frame pdu → value_of frame ≡ pdu
only_value frame pdu spelled = rw (spelled.source, spelled.event, spelled.code, only_extended frame pdu.extended spelled.extended) refl

-- a reader's answer is a value exactly where the octets spell it
pub spelled_by : (frame : List ℕ) (pdu : Pdu) → Ok pdu ≡ reading_of frame → (other : Pdu) → (let left : Result Pdu FrameErr = Ok pdu in left ≡ Ok other) ↔ Spells frame other
spelled_by frame pdu h other =
    let a = answered (first_wrong frame) (value_of frame) pdu h in (
      λ same. let e : value_of frame ≡ other = cc in subst (Spells frame) e (fields_spelled frame a.0),
      λ spelled. ap Ok (a.1 ∙ only_value frame other spelled),
    )

-- a frame with an extended QL TLV is read back
with_fields : (source : List ℕ) (event : Bool) (code enhanced : ℕ) (clock : List ℕ) (flags eeecs eecs : ℕ) → length source ≡ 6 → code % 16 ≡ code → length clock ≡ 8 → (let pdu : Pdu = record { source = source; event = event; code = code; extended = Some (record { code = enhanced; clock = clock; flags = flags; eeecs = eeecs; eecs = eecs }) } in reading_of (written_frame pdu) ≡ Ok pdu)
with_fields (a ∷ b ∷ c ∷ d ∷ e ∷ f ∷ []) true code enhanced (p ∷ q ∷ r ∷ s ∷ t ∷ u ∷ v ∷ w ∷ []) flags eeecs eecs l h k =
    ap (λ n. Ok (record { source = a ∷ b ∷ c ∷ d ∷ e ∷ f ∷ []; event = true; code = n; extended = Some (record { code = enhanced; clock = p ∷ q ∷ r ∷ s ∷ t ∷ u ∷ v ∷ w ∷ []; flags = flags; eeecs = eeecs; eecs = eecs }) })) h
with_fields (a ∷ b ∷ c ∷ d ∷ e ∷ f ∷ []) false code enhanced (p ∷ q ∷ r ∷ s ∷ t ∷ u ∷ v ∷ w ∷ []) flags eeecs eecs l h k =
    ap (λ n. Ok (record { source = a ∷ b ∷ c ∷ d ∷ e ∷ f ∷ []; event = false; code = n; extended = Some (record { code = enhanced; clock = p ∷ q ∷ r ∷ s ∷ t ∷ u ∷ v ∷ w ∷ []; flags = flags; eeecs = eeecs; eecs = eecs }) })) h
with_fields source event code enhanced clock flags eeecs eecs l h k = absurd (omega (arith, l, k))

with_tlv : (source : List ℕ) (event : Bool) (code : ℕ) (extended : Extended) → length source ≡ 6 → code % 16 ≡ code → length extended.clock ≡ 8 → (let pdu : Pdu = record { source = source; event = event; code = code; extended = Some extended } in reading_of (written_frame pdu) ≡ Ok pdu)
with_tlv source event code extended l h k = with_fields source event code extended.code extended.clock extended.flags extended.eeecs extended.eecs l h k

-- what is written is read back
reads_back : (source : List ℕ) (event : Bool) (code : ℕ) (extended : Option Extended) → length source ≡ 6 → code % 16 ≡ code → IfSome extended (λ e. length e.clock ≡ 8) → (let pdu : Pdu = record { source = source; event = event; code = code; extended = extended } in reading_of (written_frame pdu) ≡ Ok pdu)
reads_back (a ∷ b ∷ c ∷ d ∷ e ∷ f ∷ []) true code None l h k = ap (λ n. Ok (record { source = a ∷ b ∷ c ∷ d ∷ e ∷ f ∷ []; event = true; code = n; extended = None })) h
reads_back (a ∷ b ∷ c ∷ d ∷ e ∷ f ∷ []) false code None l h k = ap (λ n. Ok (record { source = a ∷ b ∷ c ∷ d ∷ e ∷ f ∷ []; event = false; code = n; extended = None })) h
reads_back (a ∷ b ∷ c ∷ d ∷ e ∷ f ∷ []) true code (Some extended) l h k = with_tlv (a ∷ b ∷ c ∷ d ∷ e ∷ f ∷ []) true code extended l h k
reads_back (a ∷ b ∷ c ∷ d ∷ e ∷ f ∷ []) false code (Some extended) l h k = with_tlv (a ∷ b ∷ c ∷ d ∷ e ∷ f ∷ []) false code extended l h k
reads_back source event code extended l h k = absurd (omega (arith, l))

pub reading_of-written_frame : (pdu : Pdu) → length pdu.source ≡ 6 → pdu.code < 16 → IfSome pdu.extended (λ e. length e.clock ≡ 8) → reading_of (written_frame pdu) ≡ Ok pdu
reading_of-written_frame pdu l h k = reads_back pdu.source pdu.event pdu.code pdu.extended l (omega (arith, h)) k
