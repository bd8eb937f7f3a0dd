-- Rows of event files that are known from outside.
use Rattle.std.specs.Prelude.{◌≡◌, ◌∷◌, [], codes, Some, None, refl}
use Rattle.sync_topo.specs.declared.event.Part.TheVariants as part
use Rattle.sync_topo.specs.declared.event.What.TheVariants as what
use Rattle.sync_text.specs.Number.{number_of}
use Rattle.sync_topo.specs.private.Examples.{twin}
use Rattle.sync_topo.specs.Sizes.{size_of, event_limit}
use Rattle.event_file.specs.declared.error.EventErr.TheVariants as refusal
use Rattle.event_file.specs.Rows.{event_in, row_refusal}

pub link_is_both_its_lines : event_in twin (codes "10" ∷ codes "down" ∷ codes "L1" ∷ [] ∷ []) ≡ Some (record { at = 10; what = what.Down (part.Link 0) })
unfolding number_of
link_is_both_its_lines = refl

pub line_has_the_receivers_name : event_in twin (codes "10" ∷ codes "esmc-off" ∷ codes "L2>A" ∷ [] ∷ []) ≡ Some (record { at = 10; what = what.EsmcOff (record { 0 = 3 }) })
unfolding number_of
line_has_the_receivers_name = refl

pub time_may_stay : row_refusal twin 2 10 (codes "10" ∷ codes "clear" ∷ codes "A" ∷ [] ∷ []) ≡ None
unfolding row_refusal number_of event_limit size_of
time_may_stay = refl

pub time_may_not_fall : row_refusal twin 2 10 (codes "9" ∷ codes "jump" ∷ codes "A" ∷ [] ∷ []) ≡ Some (refusal.Order 2)
unfolding row_refusal number_of event_limit size_of
time_may_not_fall = refl

pub clear_takes_no_line : row_refusal twin 1 0 (codes "9" ∷ codes "clear" ∷ codes "L1>A" ∷ codes "1" ∷ []) ≡ Some (refusal.Target 1)
unfolding row_refusal number_of event_limit size_of
clear_takes_no_line = refl

pub one_row_too_many : row_refusal twin 100001 0 [] ≡ Some refusal.Limit
unfolding row_refusal event_limit size_of
one_row_too_many = refl
