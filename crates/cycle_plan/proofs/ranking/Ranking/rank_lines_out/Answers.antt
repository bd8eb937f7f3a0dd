use Rattle.std.proofs.Common.{◌≡◌, ℕ, None, Some, length, refl, sym, subst, inl, inr}
use Rattle.std.proofs.lemmas.Bool.{eq-eqb}
use Rattle.std.proofs.lemmas.Option.{slice_get_read}
use Rattle.std.specs.Prelude.{◌≢◌, slice_get}
use Rattle.sync_topo.specs.Lines.{inputs_of, IsNominated, sender_of}
use Rattle.rank_cert.specs.Ranks.{rank_at}
use Rattle.cycle_plan.specs.private.Numbers.{number_in}
use Rattle.cycle_plan.specs.private.Inputs.{line_at}
use Rattle.cycle_plan.specs.private.Peeling.{AreFree, IsAmong}
use Rattle.cycle_plan.proofs.Settling.{settled_by_two, settled_by_one, first_line, open_stays, back_done, settled_if_done, free_all, free_of_bundle, IsMore-trans, IsMore-watch}
use Rattle.cycle_plan.proofs.ranking.Ranking.rank_lines_out.Goals as goal

pub returns-then-watch-clause-settled : goal.returns-then-watch-clause-settled
returns-then-watch-clause-settled c = elim c.then-watch.either [
  | inl done ↦ settled_if_done c.args.returns c.args.plan.now c.watch-watch.new.self.ranks c.args.element c.watch-watch.result c.watch-watch.ensures.watched done
  | inr two ↦
      settled_by_two c.args.returns c.args.plan.now c.watch-watch.new.self.ranks c.args.element c.watch-watch.result c.watch-watch.ensures.places
      (rw (← c.inputs_of-inputs.ensures.inputs) two.1)
]

pub give_all-requires-clause-free : goal.give_all-requires-clause-free
give_all-requires-clause-free c =
    free_all c.args.returns c.args.plan.now c.watch-watch.new.self.ranks c.args.element c.watch-watch.result c.watch-watch.ensures.places
    (rw (← c.inputs_of-inputs.ensures.inputs) (sym c.in_default.ensures))

pub returns-in_default-clause-settled : goal.returns-in_default-clause-settled
returns-in_default-clause-settled c = λ line nominated sent left.
    absurd (c.in_ok-give_all.ensures.given line nominated sent refl left)

pub returns-in_default-clause-more : goal.returns-in_default-clause-more
returns-in_default-clause-more c =
    let more = IsMore-trans c.args.returns c.args.plan.now c.args.self.now c.watch-watch.new.self c.give_all.new.self c.watch-watch.ensures.more c.in_ok-give_all.ensures.more in
    let stood : slice_get c.give_all.new.self.watches.items c.args.element ≡ Some c.index_mut.result.now =
    slice_get_read c.give_all.new.self.watches.items (length c.args.plan.now.elements) c.args.element c.index_mut.result.now (sym more.peeling.watches) c.requires.within c.index_mut.ensures.value in
    let was = more.peeling.watched c.args.element c.index_mut.result.now stood in
    IsMore-trans c.args.returns c.args.plan.now c.args.self.now c.give_all.new.self _ more
    (IsMore-watch c.args.returns c.args.plan.now c.give_all.new.self _ c.args.element _ more.peeling c.requires.within
    (record {
      watched = record { first_within = was.watched.first_within; second_within = was.watched.second_within; before = was.watched.before; between = was.watched.between };
      back = was.back;
      done = λ done line nominated sent. c.in_ok-give_all.ensures.given line nominated sent refl;
    }) refl refl refl refl)

pub returns-then-watch-2-clause-settled : goal.returns-then-watch-2-clause-settled
returns-then-watch-2-clause-settled c =
    let here : line_at (inputs_of c.args.plan.now c.args.element) c.watch-watch.result.first ≡ Some c.in-Some.last.0 = rw (← c.inputs_of-inputs.ensures.inputs) (sym c.in-Some.ensures) in
    let last = first_line c.args.returns c.args.plan.now c.watch-watch.new.self.ranks c.args.element c.watch-watch.result c.in-Some.last.0 c.watch-watch.ensures.places here in
    settled_by_one c.args.returns c.args.plan.now c.watch-watch.new.self.ranks c.args.element c.in-Some.last.0 last
    (λ line nominated sent bundles. c.watch-watch.ensures.watched.back c.if-watch-2.true line c.in-Some.last.0 nominated sent last bundles)

pub give_all-requires-2-clause-free : goal.give_all-requires-2-clause-free
give_all-requires-2-clause-free c =
    subst (λ bundle. AreFree c.args.returns c.args.plan.now c.watch-watch.new.self.ranks c.args.element (Some bundle)) (sym c.number_in.ensures)
    (free_of_bundle c.args.returns c.args.plan.now c.watch-watch.new.self.ranks c.args.element c.watch-watch.result c.in-Some.last.0 c.watch-watch.ensures.places
    (rw (← c.inputs_of-inputs.ensures.inputs) c.if-watch-inputs.false) (rw (← c.inputs_of-inputs.ensures.inputs) (sym c.in-Some.ensures)))

-- all lines out of the element over the bundle of its open inputs have ranks
given : (c : goal.After-self-2-1) → (line : ℕ) → IsNominated c.args.plan.now line → sender_of c.args.plan.now line ≡ c.args.element
    → IsAmong c.args.returns c.args.plan.now (Some (number_in c.args.returns c.args.plan.now c.in-Some.last.0)) line → rank_at c.give_all-2.new.self.ranks line ≢ None
given c line nominated sent among =
    c.in_ok-give_all-2.ensures.given line nominated sent
    (subst (λ bundle. IsAmong c.args.returns c.args.plan.now (Some bundle) line) (sym c.number_in.ensures) among)

pub returns-clause-settled : goal.returns-clause-settled
returns-clause-settled c =
    let here : line_at (inputs_of c.args.plan.now c.args.element) c.watch-watch.result.first ≡ Some c.in-Some.last.0 = rw (← c.inputs_of-inputs.ensures.inputs) (sym c.in-Some.ensures) in
    let last = first_line c.args.returns c.args.plan.now c.watch-watch.new.self.ranks c.args.element c.watch-watch.result c.in-Some.last.0 c.watch-watch.ensures.places here in
    let still = open_stays c.args.plan.now c.watch-watch.new.self.ranks c.give_all-2.new.self.ranks c.args.element c.in-Some.last.0 c.inputs_of-inputs.ensures.well_formed last c.in_ok-give_all-2.ensures.others in
    settled_by_one c.args.returns c.args.plan.now c.give_all-2.new.self.ranks c.args.element c.in-Some.last.0 still
    (λ line nominated sent bundles. given c line nominated sent (eq-eqb _ _ (sym bundles)))

pub returns-clause-more : goal.returns-clause-more
returns-clause-more c =
    let more = IsMore-trans c.args.returns c.args.plan.now c.args.self.now c.watch-watch.new.self c.give_all-2.new.self c.watch-watch.ensures.more c.in_ok-give_all-2.ensures.more in
    let stood : slice_get c.give_all-2.new.self.watches.items c.args.element ≡ Some c.index_mut-2.result.now =
    slice_get_read c.give_all-2.new.self.watches.items (length c.args.plan.now.elements) c.args.element c.index_mut-2.result.now (sym more.peeling.watches) c.requires.within c.index_mut-2.ensures.value in
    let was = more.peeling.watched c.args.element c.index_mut-2.result.now stood in
    IsMore-trans c.args.returns c.args.plan.now c.args.self.now c.give_all-2.new.self _ more
    (IsMore-watch c.args.returns c.args.plan.now c.give_all-2.new.self _ c.args.element _ more.peeling c.requires.within
    (record {
      watched = record { first_within = was.watched.first_within; second_within = was.watched.second_within; before = was.watched.before; between = was.watched.between };
      back = λ is_back.
          back_done c.args.returns c.args.plan.now c.watch-watch.new.self.ranks c.give_all-2.new.self.ranks c.args.element c.watch-watch.result c.in-Some.last.0 c.watch-watch.ensures.places
          (rw (← c.inputs_of-inputs.ensures.inputs) c.if-watch-inputs.false) (rw (← c.inputs_of-inputs.ensures.inputs) (sym c.in-Some.ensures))
          c.in_ok-give_all-2.ensures.more.grows (given c);
      done = was.done;
    }) refl refl refl refl)
