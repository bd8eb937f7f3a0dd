-- Private to this crate: what becomes of one element and of one line in a millisecond.
use Rattle.std.specs.Prelude.{◌≡◌, ◌<◌, ◌+◌, ◌*◌, ℕ, suc, List, Option, IfSome}
use Rattle.sync_ql.specs.declared.levels.NetOption.{NetOption}
use Rattle.sync_ql.specs.declared.levels.Level.{Level}
use Rattle.sync_ql.specs.Moment.{Moment, selection_at}
use Rattle.sync_ql.specs.Messages.{LineMoment, heard_at, line_until, IsLineDue}
use Rattle.sync_ql.specs.Told.{moments_until, IsOfOption}
use Rattle.sync_ql.specs.Output.{clock_level_at}
use Rattle.sync_element.specs.ElementState.{ElementState}
use Rattle.sync_element.specs.StandsFor as Element
use Rattle.link_model.specs.LineState.{LineState}
use Rattle.link_model.specs.Calls.{with_up, with_esmc, with_level}
use Rattle.link_model.specs.StandsFor as Line
use Rattle.sync_net.specs.declared.signals.LineSignal.{LineSignal}

-- it takes the same and has the same level after the millisecond as before it
pub record IsSteady (now : ℕ) (before after : ElementState) : Type 0 where
  pub selection : (past past_then : List Moment) → Element.StandsFor before past → Element.StandsFor after past_then →
      selection_at after.settings (moments_until after.settings (now + 1) past_then)
      ≡ selection_at before.settings (moments_until before.settings now past)
  pub level : (past past_then : List Moment) → Element.StandsFor before past → Element.StandsFor after past_then →
      clock_level_at after.settings (moments_until after.settings (now + 1) past_then)
      ≡ clock_level_at before.settings (moments_until before.settings now past)

-- what a line is told in a millisecond before it is given a level
abbrev pub told_past : ℕ → LineSignal → List LineMoment → List LineMoment
told_past now signal past =
    line_until (suc now) (with_esmc signal.esmc (line_until (suc now) (with_up signal.up (line_until (suc now) past))))

-- a line is told whether it is up and its ESMC is on, and a level is heard then
pub record IsLineTold (now : ℕ) (signal : LineSignal) (before after : LineState) (level : Option Level) : Type 0 where
  pub delay : after.delay ≡ before.delay
  pub turn : after.turn ≡ 4 * now + 3
  pub due_later : IfSome after.due (λ due. now < due)
  pub options : (option : NetOption) → Line.AreOfOption option before → Line.AreOfOption option after
  pub heard_option : (option : NetOption) → Line.AreOfOption option before → IsOfOption option level
  pub stands : (past : List LineMoment) → Line.StandsFor before past → Line.StandsFor after (told_past now signal past)
  pub heard : (past : List LineMoment) → Line.StandsFor before past →
      level ≡ heard_at before.delay (line_until (suc now) (told_past now signal past))

-- a line is given a level
pub record IsLineSaid (now : ℕ) (level : Level) (before after : LineState) : Type 0 where
  pub delay : after.delay ≡ before.delay
  pub turn : after.turn ≡ 4 * now + 4
  pub due_later : IfSome after.due (λ due. now < due)
  pub options : (option : NetOption) → level.option ≡ option → Line.AreOfOption option before → Line.AreOfOption option after
  pub stands : (past : List LineMoment) → Line.StandsFor before past →
      Line.StandsFor after (with_level level (line_until (suc now) past))
  pub due : (past : List LineMoment) → Line.StandsFor after past → IsLineDue after.delay past after.due
