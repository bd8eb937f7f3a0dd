use Rattle.std.proofs.Common.{◌≡◌, ℕ, List, get_or, set, length, ap, sym, ◌∙◌, arith, subst, length-set}
use Rattle.std.proofs.lemmas.List.{get_or_default}
use Rattle.smallvec.specs.SmallVec.{with_items}
use Rattle.smallvec.proofs.SmallVecLemmas.{items-with_items}
use Rattle.sync_ql.specs.declared.rules.Candidate.{Candidate}
use Rattle.sync_ql.specs.Selection.{candidate}
use Rattle.sync_ql.proofs.Eligible.{nobody}
use Rattle.sync_element.specs.declared.watched.Watched.{Watched}
use Rattle.sync_element.specs.Kept.{dues_of, unused, watched_in}
use Rattle.sync_element.specs.private.Renewing.{Renewal, candidate_of, IsStepped}
use Rattle.sync_element.proofs.FirstTimes.{dues_set}
use Rattle.sync_element.proofs.inputs.renew.Goals as goal

pub returns : goal.returns
returns c =
    let at : Renewal = record { now = c.args.now; switches = c.args.commands.now; floor = c.args.config.now.floor } in
    let i : ℕ = c.args.i in
    let input : Watched = c.step_if_told.new.input in
    let before : List Watched = c.args.inputs.now.watched.items in
    let slice : List Watched = c.as_mut_slice.result.now in
    let same : slice ≡ before = c.as_mut_slice.ensures.value in
    let watched : (with_items c.args.inputs.now.watched (set slice i input)).items ≡ set before i input =
    items-with_items c.args.inputs.now.watched (set slice i input) (length-set slice i input ∙ ap length same) ∙ ap (λ list. set list i input) same in
    let read : watched_in slice i ≡ get_or slice i c.index-as_mut_slice-place.result = get_or_default slice i unused c.index-as_mut_slice-place.result (omega (arith, c.requires.place, ap length same)) in
    let table : List Candidate = c.args.inputs.now.table in
    let inputs : List Candidate = c.inputs.result.now in
    let same_table : inputs ≡ table = c.inputs.ensures in
    let there : candidate inputs i ≡ get_or inputs i c.index-inputs-place.result = get_or_default inputs i nobody c.index-inputs-place.result (omega (arith, c.requires.place, c.requires.can.candidates_length, ap length same_table)) in
    let made : c.candidate_of-candidate.result ≡ candidate_of at i (get_or inputs i c.index-inputs-place.result).priority input = c.candidate_of-candidate.ensures.candidate c.args.now in
    record {
      input = input;
      stepped = subst (λ w. IsStepped c.args.now w input) (sym read ∙ ap (λ list. watched_in list i) same) c.step_if_told.ensures;
      watched = watched;
      dues = ap dues_of watched ∙ dues_set before i input;
      candidates = c.set_if_other.ensures ∙ ap (set table i) (made ∙ ap (λ d. candidate_of at i d.priority input) (sym there ∙ ap (λ list. candidate list i) same_table));
    }
