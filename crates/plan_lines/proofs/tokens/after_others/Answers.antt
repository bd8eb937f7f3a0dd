use Rattle.std.proofs.Common.{sym, ◌∙◌, ap}
use Rattle.toml_parser.specs.Lexical.{is_ws}
use Rattle.toml_parser.proofs.LexicalLemmas.{skip_ws_none}
use Rattle.plan_lines.proofs.tokens.after_others.Goals as goal

pub returns-else-is_ws-clause-rest : goal.returns-else-is_ws-clause-rest
returns-else-is_ws-clause-rest c = sym (skip_ws_none c.args.s.now (ap is_ws (sym c.first.ensures) ∙ (sym c.is_ws.ensures ∙ c.if-is_ws.false)))
