-- How long a written certificate is.
use Rattle.std.proofs.Common.{◌≡◌, ℕ, ◌+◌, ◌*◌, ◌/◌, ◌<◌, ◌≤◌, ◌^◌, zero, suc, Bool, true, false, List, ◌∷◌, ◌++◌, length, map, filter, Option, Some, None, refl, sym, lit<, arith}
use Rattle.std.specs.Prelude.{codes, unwrap_or, is_some}
use Rattle.std.specs.List.{range_with_len, concat}
use Rattle.std.specs.Fmt.{decimal}
use Rattle.std.proofs.lemmas.Bool.{true≢false}
use Rattle.std.proofs.lemmas.List.{length-append}
use Rattle.std.proofs.lemmas.Fmt.{length-decimal-le}
use Rattle.sync_topo.proofs.NameLaws.{name-short}
use Rattle.sync_topo.specs.Topology.{Topology}
use Rattle.sync_topo.specs.Lines.{line_count, is_nominated, line_name, element_name, receiver_of}
use Rattle.sync_topo.specs.Names.{is_name}
use Rattle.sync_topo.specs.WellFormed.{IsWellFormed}
use Rattle.rank_cert.specs.Ranks.{Ranks, rank_at, rank_of, IsRanked}
use Rattle.rank_cert.specs.CertificateText.{row_text, row_size, certificate_size}
use Rattle.rank_cert.specs.private.Written.{AreWritten}
use Rattle.rank_cert.proofs.OwnNames.{passes_at, element_named, has-named-link}

-- rows of the numbers in a range that pass, each at most so long
rows-short : (p : ℕ → Bool) (row : ℕ → List ℕ) (size a n : ℕ) → ((k : ℕ) → k < a + n → p k ≡ true → length (row k) ≤ size)
    → length (concat (map row (filter p (range_with_len a n)))) ≤ n * size
rows-short p row size a zero short = omega arith
rows-short p row size a (suc n) short = cases (p a) refl (rows-short p row size (a + 1) n (λ k below passes. short k (omega (arith, below)) passes))
  where
    cases : (b : Bool) → p a ≡ b → length (concat (map row (filter p (range_with_len (a + 1) n)))) ≤ n * size
        → length (concat (map row (filter p (range_with_len a (suc n))))) ≤ suc n * size
    cases true e rest =
        let here = short a (omega arith) e in
        rw (e, length-append (row a) (concat (map row (filter p (range_with_len (a + 1) n))))) (omega (arith, here, rest))
    cases false e rest = rw e (omega (arith, rest))

element-short : (plan : Topology) (element : ℕ) → IsWellFormed plan → element < length plan.elements → length (element_name plan element) ≤ 32
element-short plan element well within =
    name-short (element_name plan element)
    (passes_at is_name (map (λ e. e.name) plan.elements) element (element_name plan element) well.elements_named (element_named plan element within))

-- a line's name has at most 65
pub line-short : (plan : Topology) (line : ℕ) → IsWellFormed plan → line < line_count plan → length (line_name plan line) ≤ 65
line-short plan line well within =
    let has = has-named-link plan line well within in
    let link = name-short has.link.name (passes_at is_name (map (λ link. link.name) plan.links) (line / 2) has.link.name well.links_named has.named_at) in
    let element = element-short plan (receiver_of plan line) well has.is_element in
    rw (has.whole, length-append has.link.name (62 ∷ element_name plan (receiver_of plan line))) (omega (arith, link, element))

-- and its row at most 87
row-short : (plan : Topology) (line rank : ℕ) → IsWellFormed plan → line < line_count plan → rank < 2 ^ 64 → length (row_text plan line rank) ≤ row_size
row-short plan line rank well within small =
    let name = line-short plan line well within in
    let digits = length-decimal-le 20 rank (lit< tt) (omega (arith, small)) small in
    rw (length-append (line_name plan line ++ codes "," ++ decimal rank) (codes "\n"), length-append (line_name plan line ++ codes ",") (decimal rank), length-append (line_name plan line) (codes ","))
    (omega (arith, name, digits))

-- the whole text, once all lines are written
pub written-short : (plan : Topology) (ranks : Ranks) (bound : ℕ) (text : List ℕ) → IsWellFormed plan → IsRanked plan ranks → bound ≤ line_count plan
    → AreWritten plan ranks bound text → length text ≤ certificate_size plan
written-short plan ranks bound text well ranked within written =
    let f : ℕ → List ℕ = λ line. row_text plan line (rank_of ranks line) in
    let rows = rows-short (is_nominated plan) f row_size 0 bound (λ line below nominated.
    row-short plan line (rank_of ranks line) well (omega (arith, below, within)) (written.fit line (rank_of ranks line) (omega (arith, below)) (known (rank_at ranks line) (ranked.ranked line nominated)))) in
    rw (written.written, length-append (codes "line,rank\n") (concat (map f (filter (is_nominated plan) (range_with_len 0 bound))))) (omega (arith, rows, within))
  where
    known : (o : Option ℕ) → is_some o ≡ true → o ≡ Some (unwrap_or o 0)
    known None some = absurd (true≢false (sym some))
    known (Some rank) some = refl
