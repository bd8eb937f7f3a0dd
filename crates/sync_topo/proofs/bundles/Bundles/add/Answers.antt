use Rattle.std.proofs.Common.{◌≡◌, ℕ, false, [], ◌∷◌, ◌++◌, Some, length, arith, ap, sym, ◌∙◌}
use Rattle.sync_topo.specs.Names.{is_named}
use Rattle.sync_topo.proofs.BundleLemmas.{more-unnamed, more-named, more-new, kept-as, on-Ok}
use Rattle.sync_topo.proofs.bundles.Bundles.add.Goals as goal

pub returns-in_default : goal.returns-in_default
returns-in_default c = λ links link same are.
    let kept = c.args.self.now.numbers.items in
    let count : c.len-link.result ≡ length links = omega (arith, c.len-link.ensures, c.args.self.now.numbers.ok, are.counted) in
    on-Ok _ _ c.keep.result (λ numbers.
    kept-as _ _ _ _ _ _ _ c.keep.ensures.names c.keep.ensures.firsts (numbers ∙ ap (λ (last : ℕ). kept ++ last ∷ []) count)
    (more-unnamed _ _ _ links link are (same ∙ c.in_default.is))) c.keep.ensures.numbers

pub returns-in-Some-first : goal.returns-in-Some-first
returns-in-Some-first c = λ links link same are.
    let named : link.bundle ≡ Some c.bytes.result.now = same ∙ c.in-Some.is ∙ ap Some (sym c.bytes.ensures) in
    on-Ok _ _ c.keep-in-Some-first.result (λ numbers.
    kept-as _ _ _ _ _ _ _ c.keep-in-Some-first.ensures.names c.keep-in-Some-first.ensures.firsts numbers
    (more-named _ _ _ links link _ _ are named (sym c.in-Some-first.ensures.first))) c.keep-in-Some-first.ensures.numbers

pub returns : goal.returns
returns c = λ links link same are.
    let name = c.bytes-2.result.now in
    let named : link.bundle ≡ Some name = same ∙ c.in-Some.is ∙ ap Some (sym c.bytes-2.ensures) in
    let alike : c.bytes.result.now ≡ name = c.bytes.ensures ∙ sym c.bytes-2.ensures in
    let fresh : is_named c.args.self.now.names name ≡ false = ap (is_named c.args.self.now.names) (sym alike) ∙ sym c.in_default-first.ensures.found in
    let count : c.len-link.result ≡ length links = omega (arith, c.len-link.ensures, c.args.self.now.numbers.ok, are.counted) in
    on-Ok _ _ c.keep-2.result (λ numbers.
    kept-as _ _ _ _ _ _ _ (c.keep-2.ensures.names ∙ c.in_ok-add.ensures)
    (c.keep-2.ensures.firsts ∙ c.in-Ok.ensures.items ∙ ap (λ (last : ℕ). c.args.self.now.firsts.items ++ last ∷ []) count)
    (numbers ∙ ap (λ (last : ℕ). c.args.self.now.numbers.items ++ last ∷ []) count)
    (more-new _ _ _ links link name are named fresh)) c.keep-2.ensures.numbers
