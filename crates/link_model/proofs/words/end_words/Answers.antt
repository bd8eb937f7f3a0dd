use Rattle.std.proofs.Common.{◌≡◌, ◌<◌, ℕ, zero, suc, ◌+◌, List, [], ◌∷◌, ◌++◌, length, map, take, drop, slice_set, slice_index_or, refl, ap, ◌∙◌, arith}
use Rattle.link_model.specs.declared.word.Word.{Word}
use Rattle.link_model.specs.private.Kept.{ended}
use Rattle.link_model.proofs.words.end_words.Goals as goal

one_ended : (now i : ℕ) (ws : List Word) (d : Word) → i < length ws → slice_set (map (ended now) (take i ws) ++ drop i ws) i (ended now (slice_index_or (map (ended now) (take i ws) ++ drop i ws) i d)) ≡ map (ended now) (take (suc i) ws) ++ drop (suc i) ws
one_ended now i [] d within = absurd (omega (arith, within))
one_ended now zero (w ∷ ws) d within = refl
one_ended now (suc i) (w ∷ ws) d within = ap (λ rest. ended now w ∷ rest) (one_ended now i ws d (omega (arith, within)))

pub loop-i-preserved : goal.loop-i-preserved
loop-i-preserved c =
    let more : suc c.loop-i.i ≡ c.loop-i.i + 1 = omega arith in
    let within : c.loop-i.i < length c.args.words.now = omega (arith, c.loop-i-test.true, c.requires.count) in
    ap (λ w. slice_set c.loop-i.words c.loop-i.i w) (c.ended.ensures ∙ ap (ended c.args.now) c.index-words-i.is)
    ∙ ap (λ ws. slice_set ws c.loop-i.i (ended c.args.now (slice_index_or ws c.loop-i.i c.index-words-i.result))) c.loop-i.invariant
    ∙ one_ended c.args.now c.loop-i.i c.args.words.now c.index-words-i.result within
    ∙ ap (λ n. map (ended c.args.now) (take n c.args.words.now) ++ drop n c.args.words.now) more
