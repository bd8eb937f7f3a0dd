use Rattle.std.proofs.Common.{◌≡◌, ◌<◌, List, set, length, ap, ◌∙◌, arith, length-set}
use Rattle.smallvec.specs.SmallVec.{with_items}
use Rattle.smallvec.proofs.SmallVecLemmas.{items-with_items}
use Rattle.sync_ql.specs.declared.rules.Candidate.{Candidate}
use Rattle.selector.proofs.OneOption.{one_option-set}
use Rattle.selector.proofs.table.Table.set.Goals as goal

pub invariant_of-self : goal.invariant_of-self
invariant_of-self c =
    let before : List Candidate = c.self.inside.inputs.items in
    let slice : List Candidate = c.as_mut_slice.result.now in
    let same : slice ≡ before = c.as_mut_slice.ensures.value in
    let renewed : (with_items c.self.inside.inputs (set slice c.args.input c.args.to)).items ≡ set before c.args.input c.args.to =
    items-with_items c.self.inside.inputs (set slice c.args.input c.args.to) (length-set slice c.args.input c.args.to ∙ ap length same) ∙ ap (λ list. set list c.args.input c.args.to) same in
    let within : c.args.input < length before = rw (← c.self.view_is) at c.requires.place in
    rw renewed (record {
      few = omega (arith, length-set before c.args.input c.args.to, c.self.invariant.few);
      one_option = one_option-set before c.args.input c.args.to within c.self.invariant.one_option (rw (← c.self.view_is) at c.requires.one_option);
    })
