use Rattle.std.proofs.Common.{◌≡◌, ap, sym, subst, ◌∙◌, ◌++◌, ◌∷◌, [], append_assoc}
use Rattle.std.specs.Prelude.{◌==◌}
use Rattle.capture_text.specs.Lines.{parts_left}
use Rattle.node_file.specs.Cutting.{HaveRead, AreRefused, with_row}
use Rattle.node_file.proofs.LineCuts.{first_alone, whole_piece, cut_piece, piece_more}
use Rattle.node_file.proofs.ReadOn.{refused_more, refused_piece, end_in_piece}
use Rattle.node_file.proofs.lines.NodeLines.take.Goals as goal

pub put-requires-clause-no_end : goal.put-requires-clause-no_end
put-requires-clause-no_end c = first_alone (λ byte. byte == 10) c.args.piece.now c.cut_at.result.0.now _ c.cut_at.ensures.parts

pub returns-in-Err-clause-refused : goal.returns-in-Err-clause-refused
returns-in-Err-clause-refused c =
    let more = piece_more c.args.piece.now c.cut_at.result.0.now _ c.cut_at.ensures.parts in
    refused_piece _ _ _ c.cut_at.result.0.now more.0 c.args.piece.now c.in-Err.error more.1 c.in-Err.ensures.refused

pub returns-in_default-rest-clause-read : goal.returns-in_default-rest-clause-read
returns-in_default-rest-clause-read c bytes rows was =
    let none : parts_left 10 c.cut_at.result.1 ≡ [] = ap (parts_left 10) c.in_default-rest.is in
    let whole = whole_piece c.args.piece.now c.cut_at.result.0.now (c.cut_at.ensures.parts ∙ ap (λ parts. c.cut_at.result.0.now ∷ parts) none) in
    subst (λ piece. HaveRead c.put.new.self (bytes ++ piece) rows) (sym whole) (c.in_default.ensures.read bytes rows was)

pub returns-in-Ok-clause-read : goal.returns-in-Ok-clause-read
returns-in-Ok-clause-read c bytes rows was =
    let cut = cut_piece c.args.piece.now c.cut_at.result.0.now c.in-Some.rest.now
    (c.cut_at.ensures.parts ∙ ap (λ rest. c.cut_at.result.0.now ∷ parts_left 10 rest) c.in-Some.is) in (
      c.cut_at.result.0.now ++ 10 ∷ [],
      cut ∙ sym (append_assoc c.cut_at.result.0.now (10 ∷ []) c.in-Some.rest.now),
      subst (λ read. HaveRead c.end.new.self read (with_row rows c.in-Ok.row)) (append_assoc bytes c.cut_at.result.0.now (10 ∷ []))
          (c.in-Ok.ensures.read (bytes ++ c.cut_at.result.0.now) rows (c.in_default.ensures.read bytes rows was)),
    )

pub returns-in-Err-end-clause-refused : goal.returns-in-Err-end-clause-refused
returns-in-Err-end-clause-refused c =
    let cut = cut_piece c.args.piece.now c.cut_at.result.0.now c.in-Some.rest.now
    (c.cut_at.ensures.parts ∙ ap (λ rest. c.cut_at.result.0.now ∷ parts_left 10 rest) c.in-Some.is) in
    λ bytes rows was.
    let refused = refused_more c.put.new.self.plan c.put.new.self.element ((bytes ++ c.cut_at.result.0.now) ++ 10 ∷ []) c.in-Some.rest.now c.in-Err-end.refused
    (c.in-Err-end.ensures.refused (bytes ++ c.cut_at.result.0.now) rows (c.in_default.ensures.read bytes rows was)) in
    let whole = subst (λ read. AreRefused c.put.new.self.plan c.put.new.self.element read c.in-Err-end.refused)
    (end_in_piece bytes c.cut_at.result.0.now c.in-Some.rest.now c.args.piece.now cut) refused in
    subst (λ plan. AreRefused plan c.args.self.now.element (bytes ++ c.args.piece.now) c.in-Err-end.refused) c.put.ensures.plan
    (subst (λ element. AreRefused c.put.new.self.plan element (bytes ++ c.args.piece.now) c.in-Err-end.refused) c.put.ensures.element whole)
