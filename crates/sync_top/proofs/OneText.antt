-- The text of the least ranks is one, over any test of hops.
use Rattle.std.proofs.Common.{◌≡◌, ℕ, true, List, [], ◌∷◌, ◌++◌, map, refl, sym, ◌∙◌, ap}
use Rattle.std.specs.Prelude.{codes, slice_index_or, unwrap_or}
use Rattle.std.specs.List.{All, concat, range_with_len}
use Rattle.std.proofs.lemmas.List.Elements.{All-head, All-tail, filter_passes}
use Rattle.sync_topo.specs.Topology.{Topology}
use Rattle.sync_topo.specs.Lines.{line_count, is_nominated}
use Rattle.sync_topo.specs.Ranks.{HopTest, AreLeastRanks}
use Rattle.rank_cert.specs.Ranks.{Ranks, rank_at, rank_of}
use Rattle.rank_cert.specs.CertificateText.{certificate_text, nominated_lines, row_text}
use Rattle.cycle_plan.proofs.Walks.{one_least}

-- what two functions make of each element is the same
map_alike : (f g : ℕ → List ℕ) (xs : List ℕ) → All (λ x. f x ≡ g x) xs → map f xs ≡ map g xs
map_alike f g [] alike = refl
map_alike f g (x ∷ xs) alike =
    ap (λ y. y ∷ map f xs) (All-head (λ y. f y ≡ g y) x xs alike)
    ∙ ap (λ ys. g x ∷ ys) (map_alike f g xs (All-tail (λ y. f y ≡ g y) x xs alike))

-- a line that is nominated has one least rank
same_rank : (hop : HopTest) (plan : Topology) (ranks others : Ranks) (line : ℕ) → AreLeastRanks hop (is_nominated plan) (rank_at ranks)
    → AreLeastRanks hop (is_nominated plan) (rank_at others) → is_nominated plan line ≡ true → rank_of ranks line ≡ rank_of others line
same_rank hop plan ranks others line first second nominated =
    let one = first.least line nominated in
    let two = second.least line nominated in
    ap (λ r. unwrap_or r 0) one.1
    ∙ one_least hop line one.0 two.0 one.2 two.2
    ∙ sym (ap (λ r. unwrap_or r 0) two.1)

-- so the text of the least ranks is one
pub same_text : (hop : HopTest) (plan : Topology) (ranks others : Ranks) → AreLeastRanks hop (is_nominated plan) (rank_at ranks)
    → AreLeastRanks hop (is_nominated plan) (rank_at others) → certificate_text plan ranks ≡ certificate_text plan others
same_text hop plan ranks others first second =
    ap (λ rows. codes "line,rank\n" ++ concat rows)
    (map_alike (λ line. row_text plan line (rank_of ranks line)) (λ line. row_text plan line (rank_of others line)) (nominated_lines plan)
    (λ k d within. ap (λ rank. row_text plan (slice_index_or (nominated_lines plan) k d) rank)
    (same_rank hop plan ranks others (slice_index_or (nominated_lines plan) k d) first second
    (filter_passes (is_nominated plan) (range_with_len 0 (line_count plan)) k d within))))
