-- What was read, and what is refused, where more bytes come.
use Rattle.std.proofs.Common.{◌≡◌, ◌≤◌, ◌<◌, ℕ, ◌+◌, true, false, List, [], ◌∷◌, ◌++◌, length, Option, Some, None, refl, ap, sym, subst, ◌∙◌, ◌⊎◌, arith, append_assoc, append-nil}
use Rattle.std.specs.Prelude.{Result, Ok, Err, IfSome}
use Rattle.std.specs.List.{filter_map}
use Rattle.std.proofs.lemmas.Bool.{lt-ltb}
use Rattle.std.proofs.lemmas.List.{length-append}
use Rattle.sync_topo.specs.Topology.{Topology}
use Rattle.sync_text.specs.declared.errors.NoAnswer.{NoAnswer}
use Rattle.sync_text.specs.Gives.{IfRefusal}
use Rattle.sync_text.proofs.Failures.{refused-more}
use Rattle.node_file.specs.declared.error.NodeErr.{NodeErr}
use Rattle.node_file.specs.declared.error.NodeErr.TheVariants as refusal
use Rattle.node_file.specs.declared.row.NodeRow.{NodeRow}
use Rattle.node_file.specs.NodeFile.{line_limit, is_blank, time_in, time_before, line_refusal, row_in, lines_of, rows_of_lines, rows_of}
use Rattle.node_file.specs.Cutting.{ended_in, lines_ended, line_begun, rows_so_far, LinesRead, HaveRead, AreRefused, with_row, time_after}
use Rattle.node_file.proofs.Cuts.{with_front, all_lines, lines_further, ended_further, begun_further, put_ended, put_begun, fed_ended, fed_begun}
use Rattle.node_file.proofs.Taking.{rows_given, rows_refused, rows_more, sound_more, time_of_blank, time_of_row}

-- bytes go on with the line that has begun
pub read_on : (s t : LinesRead) (bytes front : List ℕ) (rows : List NodeRow) → HaveRead s bytes rows → lines_of front ≡ front ∷ []
    → t.plan ≡ s.plan → t.element ≡ s.element → t.begun ≡ s.begun ++ front → t.ended ≡ s.ended → t.before ≡ s.before
    → length (s.begun ++ front) ≤ line_limit → HaveRead t (bytes ++ front) rows
read_on s t bytes front rows was one plan element begun ended before short =
    let same = put_ended bytes front one in
    let more : s.begun ++ front ≡ line_begun (bytes ++ front) = ap (λ b. b ++ front) was.begun ∙ sym (put_begun bytes front one) in
    record {
      sound = rw (same, plan, element) was.sound;
      short = subst (λ line. length line ≤ line_limit) more short;
      given = rw (same, plan, element) was.given;
      begun = begun ∙ more;
      ended = ended ∙ was.ended ∙ ap length (sym same);
      before = before ∙ was.before ∙ ap (λ lines. time_before lines (length lines)) (sym same);
    }

time_then : (done : List (List ℕ)) (line : List ℕ) (row : Option NodeRow) → (row ≡ None → is_blank line ≡ true)
    → IfSome row (λ r. (is_blank line ≡ false) × (time_in line ≡ Some r.at))
    → time_after (time_before done (length done)) row ≡ time_before (done ++ line ∷ []) (length (done ++ line ∷ []))
time_then done line row blank says = by row blank says
  where
    size : length (done ++ line ∷ []) ≡ length done + 1
    size = length-append done (line ∷ [])

    by : (row : Option NodeRow) → (row ≡ None → is_blank line ≡ true) → IfSome row (λ r. (is_blank line ≡ false) × (time_in line ≡ Some r.at))
        → time_after (time_before done (length done)) row ≡ time_before (done ++ line ∷ []) (length (done ++ line ∷ []))
    by None blank says = rw size (sym (time_of_blank done line (blank refl)))
    by (Some row) blank says = rw size (sym (time_of_row done line row.at says.0 says.1))

-- the rule that the line that has begun breaks, in what is kept
rule_here : (s : LinesRead) (bytes : List ℕ) (rows : List NodeRow) (rule : Option NodeErr) → HaveRead s bytes rows
    → line_refusal s.plan s.element (s.ended + 1) s.before s.begun ≡ rule
    → line_refusal s.plan s.element (length (lines_ended bytes) + 1) (time_before (lines_ended bytes) (length (lines_ended bytes))) (line_begun bytes) ≡ rule
rule_here s bytes rows rule was is =
    ap (line_refusal s.plan s.element (length (lines_ended bytes) + 1) (time_before (lines_ended bytes) (length (lines_ended bytes)))) (sym was.begun)
    ∙ ap (λ before. line_refusal s.plan s.element (length (lines_ended bytes) + 1) before s.begun) (sym was.before)
    ∙ ap (λ n. line_refusal s.plan s.element (n + 1) s.before s.begun) (sym was.ended) ∙ is

-- a line feed ends it
pub read_end : (s t : LinesRead) (bytes : List ℕ) (rows : List NodeRow) (row : Option NodeRow) → HaveRead s bytes rows
    → line_refusal s.plan s.element (s.ended + 1) s.before s.begun ≡ None → row_in s.plan s.element s.begun ≡ row
    → (row ≡ None → is_blank s.begun ≡ true) → IfSome row (λ r. (is_blank s.begun ≡ false) × (time_in s.begun ≡ Some r.at))
    → t.plan ≡ s.plan → t.element ≡ s.element → t.begun ≡ [] → t.ended ≡ s.ended + 1 → t.before ≡ time_after s.before row
    → HaveRead t (bytes ++ 10 ∷ []) (with_row rows row)
read_end s t bytes rows row was sound is blank says plan element begun ended before =
    let done : List (List ℕ) = lines_ended bytes in
    let line : List ℕ = line_begun bytes in
    let more : lines_ended (bytes ++ 10 ∷ []) ≡ done ++ line ∷ [] = fed_ended bytes in
    let none : line_begun (bytes ++ 10 ∷ []) ≡ [] = fed_begun bytes in
    let here = rule_here s bytes rows None was sound in
    record {
      sound = rw (more, plan, element) (sound_more s.plan s.element done line was.sound here);
      short = rw none (omega arith);
      given = rw (more, plan, element) (ap (λ front. with_row front row) was.given ∙ sym (rows_more s.plan s.element done line row (rw (← was.begun) is)));
      begun = begun ∙ sym none;
      ended = ended ∙ ap (λ n. n + 1) was.ended ∙ sym (ap length more ∙ length-append done (line ∷ []));
      before = before ∙ ap (λ time. time_after time row) was.before
          ∙ time_then done line row (rw (← was.begun) blank) (rw (← was.begun) says) ∙ ap (λ lines. time_before lines (length lines)) (sym more);
    }

-- the rows so far, of lines that give rows, and a line that has begun
so_far_refused : (plan : Topology) (element : ℕ) (bytes : List ℕ) (error : NodeErr) → rows_of_lines plan element (lines_ended bytes) ≡ Err error
    → rows_so_far plan element bytes ≡ Err error
so_far_refused plan element bytes error is = rw is refl

so_far_long : (plan : Topology) (element : ℕ) (bytes : List ℕ) (rows : List NodeRow) → rows_of_lines plan element (lines_ended bytes) ≡ Ok rows
    → line_limit < length (line_begun bytes) → rows_so_far plan element bytes ≡ Err (refusal.Fields (length (lines_ended bytes) + 1))
so_far_long plan element bytes rows is long = rw (is, lt-ltb _ _ long) refl

-- the line that ends breaks a rule
pub refused_end : (s : LinesRead) (bytes : List ℕ) (rows : List NodeRow) (error : NodeErr) → HaveRead s bytes rows
    → line_refusal s.plan s.element (s.ended + 1) s.before s.begun ≡ Some error → AreRefused s.plan s.element (bytes ++ 10 ∷ []) error
refused_end s bytes rows error was broken = record {
  so_far = λ more. so_far_refused s.plan s.element ((bytes ++ 10 ∷ []) ++ more) error
      (rw (ended_further (bytes ++ 10 ∷ []) more, fed_ended bytes, append_assoc (lines_ended bytes) (line_begun bytes ∷ []) (ended_in (with_front (line_begun (bytes ++ 10 ∷ [])) (lines_of more))))
      (rows_refused s.plan s.element (lines_ended bytes) (line_begun bytes) _ error was.sound here));
  whole = λ more.
      rw (lines_further (bytes ++ 10 ∷ []) more, fed_ended bytes, append_assoc (lines_ended bytes) (line_begun bytes ∷ []) (with_front (line_begun (bytes ++ 10 ∷ [])) (lines_of more)))
      (rows_refused s.plan s.element (lines_ended bytes) (line_begun bytes) _ error was.sound here);
}
  where
    here : line_refusal s.plan s.element (length (lines_ended bytes) + 1) (time_before (lines_ended bytes) (length (lines_ended bytes))) (line_begun bytes) ≡ Some error
    here = rule_here s bytes rows (Some error) was broken

long_refused : (plan : Topology) (element n before : ℕ) (line : List ℕ) → line_limit < length line → line_refusal plan element n before line ≡ Some (refusal.Fields n)
unfolding line_refusal
long_refused plan element n before line long = rw (lt-ltb line_limit (length line) long) refl

-- the line that has begun is too long
pub refused_long : (s : LinesRead) (bytes front : List ℕ) (rows : List NodeRow) → HaveRead s bytes rows → lines_of front ≡ front ∷ []
    → line_limit < length (s.begun ++ front) → AreRefused s.plan s.element (bytes ++ front) (refusal.Fields (s.ended + 1))
refused_long s bytes front rows was one long = record {
  so_far = λ more. so_far_by more (lines_of more) refl;
  whole = λ more. whole_by more (lines_of more) refl;
}
  where
    done : List (List ℕ)
    done = lines_ended bytes

    line : List ℕ
    line = line_begun (bytes ++ front)

    is_long : line_limit < length line
    is_long = subst (λ l. line_limit < length l) (ap (λ b. b ++ front) was.begun ∙ sym (put_begun bytes front one)) long

    longer : (more : List ℕ) → line_limit < length (line ++ more)
    longer more = let size = length-append line more in let known = is_long in omega (arith, size, known)

    number : ◌≡◌ {A = Result (List NodeRow) NodeErr} (Err (refusal.Fields (length done + 1))) (Err (refusal.Fields (s.ended + 1)))
    number = ap (λ n. Err (refusal.Fields (n + 1))) (sym was.ended)

    refused : (l : List ℕ) (rest : List (List ℕ)) → line_limit < length l → rows_of_lines s.plan s.element (done ++ l ∷ rest) ≡ Err (refusal.Fields (s.ended + 1))
    refused l rest over =
        rows_refused s.plan s.element done l rest (refusal.Fields (length done + 1)) was.sound (long_refused s.plan s.element (length done + 1) (time_before done (length done)) l over)
        ∙ number

    whole_by : (more : List ℕ) (parts : List (List ℕ)) → lines_of more ≡ parts → rows_of s.plan s.element ((bytes ++ front) ++ more) ≡ Err (refusal.Fields (s.ended + 1))
    whole_by more [] is = rw (lines_further (bytes ++ front) more, is, put_ended bytes front one) (refused line [] is_long)
    whole_by more (part ∷ parts) is = rw (lines_further (bytes ++ front) more, is, put_ended bytes front one) (refused (line ++ part) parts (longer part))

    so_far_by : (more : List ℕ) (parts : List (List ℕ)) → lines_of more ≡ parts → rows_so_far s.plan s.element ((bytes ++ front) ++ more) ≡ Err (refusal.Fields (s.ended + 1))
    so_far_by more [] is =
        let ended : lines_ended ((bytes ++ front) ++ more) ≡ done = rw (ended_further (bytes ++ front) more, is, put_ended bytes front one) (append-nil done) in
        let begun : line_begun ((bytes ++ front) ++ more) ≡ line = rw (begun_further (bytes ++ front) more, is) refl in
        so_far_long s.plan s.element ((bytes ++ front) ++ more) (filter_map (row_in s.plan s.element) done) (rw ended (rows_given s.plan s.element done was.sound)) (rw begun is_long)
        ∙ ap (λ lines. Err (refusal.Fields (length lines + 1))) ended ∙ number
    so_far_by more (part ∷ []) is =
        let ended : lines_ended ((bytes ++ front) ++ more) ≡ done = rw (ended_further (bytes ++ front) more, is, put_ended bytes front one) (append-nil done) in
        let begun : line_begun ((bytes ++ front) ++ more) ≡ line ++ part = rw (begun_further (bytes ++ front) more, is) refl in
        so_far_long s.plan s.element ((bytes ++ front) ++ more) (filter_map (row_in s.plan s.element) done) (rw ended (rows_given s.plan s.element done was.sound)) (rw begun (longer part))
        ∙ ap (λ lines. Err (refusal.Fields (length lines + 1))) ended ∙ number
    so_far_by more (part ∷ next ∷ parts) is =
        so_far_refused s.plan s.element ((bytes ++ front) ++ more) (refusal.Fields (s.ended + 1))
        (rw (ended_further (bytes ++ front) more, is, put_ended bytes front one) (refused (line ++ part) _ (longer part)))

-- bytes that are refused stay so, whatever follows
pub refused_more : (plan : Topology) (element : ℕ) (bytes further : List ℕ) (error : NodeErr) → AreRefused plan element bytes error
    → AreRefused plan element (bytes ++ further) error
refused_more plan element bytes further error refused = record {
  so_far = λ more. rw (append_assoc bytes further more) (refused.so_far (further ++ more));
  whole = λ more. rw (append_assoc bytes further more) (refused.whole (further ++ more));
}

-- the last line, where no byte follows
pub last_given : (s : LinesRead) (bytes : List ℕ) (rows : List NodeRow) (row : Option NodeRow) → HaveRead s bytes rows
    → line_refusal s.plan s.element (s.ended + 1) s.before s.begun ≡ None → row_in s.plan s.element s.begun ≡ row
    → rows_of s.plan s.element bytes ≡ Ok (with_row rows row)
last_given s bytes rows row was sound is =
    let here = rule_here s bytes rows None was sound in
    ap (rows_of_lines s.plan s.element) (all_lines bytes)
    ∙ (rows_given s.plan s.element (lines_ended bytes ++ line_begun bytes ∷ []) (sound_more s.plan s.element (lines_ended bytes) (line_begun bytes) was.sound here))
    ∙ ap Ok (rows_more s.plan s.element (lines_ended bytes) (line_begun bytes) row (rw (← was.begun) is) ∙ ap (λ front. with_row front row) (sym was.given))

pub last_refused : (s : LinesRead) (bytes : List ℕ) (rows : List NodeRow) (error : NodeErr) → HaveRead s bytes rows
    → line_refusal s.plan s.element (s.ended + 1) s.before s.begun ≡ Some error → rows_of s.plan s.element bytes ≡ Err error
last_refused s bytes rows error was broken =
    let here = rule_here s bytes rows (Some error) was broken in
    ap (rows_of_lines s.plan s.element) (all_lines bytes) ∙ rows_refused s.plan s.element (lines_ended bytes) (line_begun bytes) [] error was.sound here

-- a refusal of the front of a piece is one of the piece
pub refused_piece : (plan : Topology) (element : ℕ) (lines : LinesRead) (front more piece : List ℕ) (failed : NoAnswer NodeErr) → piece ≡ front ++ more
    → IfRefusal failed (λ error. (bytes : List ℕ) (rows : List NodeRow) → HaveRead lines bytes rows → AreRefused plan element (bytes ++ front) error)
    → IfRefusal failed (λ error. (bytes : List ℕ) (rows : List NodeRow) → HaveRead lines bytes rows → AreRefused plan element (bytes ++ piece) error)
refused_piece plan element lines front more piece failed is =
    refused-more failed (λ error refused bytes rows was.
    subst (λ whole. AreRefused plan element whole error) (append_assoc bytes front more ∙ ap (λ p. bytes ++ p) (sym is))
    (refused_more plan element (bytes ++ front) more error (refused bytes rows was)))

-- a line that ends within a piece
pub end_in_piece : (bytes front rest piece : List ℕ) → piece ≡ front ++ 10 ∷ rest → ((bytes ++ front) ++ 10 ∷ []) ++ rest ≡ bytes ++ piece
end_in_piece bytes front rest piece is =
    append_assoc (bytes ++ front) (10 ∷ []) rest ∙ append_assoc bytes front (10 ∷ rest) ∙ ap (λ p. bytes ++ p) (sym is)
