use Rattle.std.proofs.Common.{◌≡◌, ◌∙◌, sym, ap}
use Rattle.sync_edge.specs.Memory.{MemoryFolder}
use Rattle.sync_edge.proofs.InMemory.{found_place}
use Rattle.sync_edge.proofs.memory_folder.MemFolder.place_to_start.Goals as goal

pub returns-clause-place : goal.returns-clause-place
returns-clause-place c =
    let files : c.as_slice.result.now ≡ c.args.self.now.files =
    c.as_slice.ensures ∙ ap (λ (folder : MemoryFolder). folder.files) (c.self.view_is ∙ c.count_call.ensures.counted) in
    rw (sym c.count_call.ensures.fails ∙ c.if-count_call.false, c.place_of.ensures, files) (found_place _ _)
