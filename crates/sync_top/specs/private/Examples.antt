-- The words of the command line, and the link that goes down in a trial.
use Rattle.std.specs.Prelude.{◌≡◌, ◌∷◌, [], ℕ, suc, codes, Some, None, slice_get, refl}
use Rattle.std.specs.Fmt.{digits}
use Rattle.std.proofs.Math.Decide.{dec_lt}
use Rattle.sync_text.specs.Number.{number_of}
use Rattle.sync_topo.specs.Names.{link_names}
use Rattle.plan_gen.specs.Ladder.{ladder}
use Rattle.sync_top.specs.declared.form.FileForm.TheVariants.{Ranks, Groups}
use Rattle.sync_top.specs.declared.form.RanksForm.TheVariants.{Check}
use Rattle.sync_top.specs.declared.form.LadderForm.TheVariants.{Gen, Trial}
use Rattle.sync_topo.specs.declared.sizes.Size.TheVariants.{Standard, Large}
use Rattle.sync_top.specs.Form.{on_file, on_ladder, form_of}

pub check_has_two_files : form_of (codes "check" ∷ codes "p" ∷ codes "c" ∷ []) ≡ Some (on_file (Ranks Check) (record { size = Standard; name = codes "p" }) (codes "c"))
check_has_two_files = refl

pub protected_may_have_groups : form_of (codes "protected" ∷ codes "p" ∷ codes "g" ∷ []) ≡ Some (on_file Groups (record { size = Standard; name = codes "p" }) (codes "g"))
protected_may_have_groups = refl

pub empty_word_names_no_file : form_of (codes "check" ∷ [] ∷ codes "c" ∷ []) ≡ None
empty_word_names_no_file = refl

-- the first word allows large plans, and is no form by itself
pub large_check_has_the_same_files
    : form_of (codes "large" ∷ codes "check" ∷ codes "p" ∷ codes "c" ∷ []) ≡ Some (on_file (Ranks Check) (record { size = Large; name = codes "p" }) (codes "c"))
large_check_has_the_same_files = refl

pub large_alone_is_no_form : form_of (codes "large" ∷ []) ≡ None
large_alone_is_no_form = refl

pub large_stands_once : form_of (codes "large" ∷ codes "large" ∷ codes "rank" ∷ codes "p" ∷ []) ≡ None
large_stands_once = refl

pub frames_are_of_no_size : form_of (codes "large" ∷ codes "decode" ∷ codes "I" ∷ codes "f" ∷ []) ≡ None
frames_are_of_no_size = refl

pub ladder_has_its_size : form_of (codes "gen" ∷ codes "2001" ∷ []) ≡ None
unfolding digits dec_lt number_of
ladder_has_its_size = refl

pub large_ladder_has_its_size : form_of (codes "large" ∷ codes "gen" ∷ codes "100000" ∷ []) ≡ Some (on_ladder Gen 100000)
unfolding digits dec_lt number_of
large_ladder_has_its_size = refl

pub trial_has_no_file : form_of (codes "trial" ∷ codes "10" ∷ []) ≡ Some (on_ladder Trial 10)
unfolding digits dec_lt number_of
trial_has_no_file = refl

-- link 0 of a ladder is S1, which goes down in a trial
pub first_link_is_S1 : (n : ℕ) → slice_get (link_names (ladder (suc (suc n))).links) 0 ≡ Some (codes "S1")
unfolding digits dec_lt
first_link_is_S1 n = refl
