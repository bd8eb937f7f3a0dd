-- What holds of a network once all that it waits for has run out: what is sent is heard a delay later, and an input stays where
-- what its line carries stays.
use Rattle.std.proofs.Common.{◌≡◌, ◌≤◌, ◌+◌, ◌-◌, ◌⊎◌, ℕ, suc, Bool, true, false, not, Some, refl, ap, sym, ◌∙◌, inl, inr, arith}
use Rattle.std.specs.Prelude.{IsTrue}
use Rattle.sync_ql.proofs.Delivered.{heard-delivered}
use Rattle.sync_topo.specs.declared.input.InputId.{InputId}
use Rattle.sync_topo.specs.declared.input.InputId.TheVariants.{Source}
use Rattle.sync_topo.specs.Topology.{Topology}
use Rattle.sync_topo.specs.Lines.{line_input, delay_of, IsInput, IsNominated, is_nominated_input}
use Rattle.sync_topo.proofs.LineLaws.{IsNominated-within}
use Rattle.net_rules.specs.Signals.{Signals, speaks_at}
use Rattle.net_rules.specs.History.{Levels, line_moment_at, heard, failed_by, Obeys}
use Rattle.net_rules.specs.Settled.{IsSettled}
use Rattle.net_rules.proofs.HistoryLaws.{IsDelayed}
use Rattle.net_rules.proofs.PairLaws.{speaks-said, speaks-up, is_heard}
use Rattle.net_rules.proofs.QuietLaws.{InputStays, some-IsSome, speaks_or}
use Rattle.net_rules.proofs.RunOutLaws.{RunsOut, constant-at}

-- a line carries one level from a millisecond on
abbrev pub CarriesOne : Levels → ℕ → ℕ → Type 0
CarriesOne out line from = (t : ℕ) → from ≤ t → out line (suc t) ≡ out line t

module _ (plan : Topology) (signals : Signals) (out : Levels) (last wait delay : ℕ)
    (by : RunsOut plan signals out last wait delay) (delayed : IsDelayed plan) (obeys : Obeys plan signals out) where
  pub up-from : (input : InputId) (t : ℕ) → last ≤ t → signals.up input t ≡ signals.up input last
  up-from input t after = constant-at (signals.up input) last t (λ u since. by.quiet.up input u since) after

  pub esmc-from : (line t : ℕ) → last ≤ t → signals.esmc line t ≡ signals.esmc line last
  esmc-from line t after = constant-at (signals.esmc line) last t (λ u since. by.quiet.esmc line u since) after

  pub speaks-from : (line t : ℕ) → last ≤ t → speaks_at signals line t ≡ speaks_at signals line last
  speaks-from line t after = rw (up-from (line_input line) t after, esmc-from line t after) refl

  pub speaks-both : (line t u : ℕ) → last ≤ t → last ≤ u → speaks_at signals line u ≡ speaks_at signals line t
  speaks-both line t u after after_u = speaks-from line u after_u ∙ sym (speaks-from line t after)

  -- a line that speaks is heard as it spoke a delay ago
  pub speaking-heard : (line t : ℕ) → last + delay_of plan line ≤ t → speaks_at signals line t ≡ true
      → heard plan signals out line t ≡ Some (out line (t - delay_of plan line))
  speaking-heard line t after speaks =
      let d : ℕ = delay_of plan line in
      let spoke : (u : ℕ) → t - d ≤ u → speaks_at signals line u ≡ true = λ u since. speaks-both line t u (omega (arith, after)) (omega (arith, after, since)) ∙ speaks in
      is_heard plan signals out line t
      (heard-delivered (line_moment_at signals out line) (out line (t - d)) d (t - d) t (omega (arith, after))
      (speaks-said signals out line (t - d) (spoke (t - d) (omega arith)))
      (λ u since before. speaks-up signals line u (spoke u since)))

  pub failed-stays : (input : InputId) (t : ℕ) → IsInput plan input → IsTrue (is_nominated_input plan input) → last + wait ≤ t
      → failed_by plan signals input (suc t) ≡ failed_by plan signals input t
  failed-stays input t has nominated after =
      by.steady input has nominated (suc t) (omega (arith, after))
      ∙ ap not (by.quiet.up input t (omega (arith, after)))
      ∙ sym (by.steady input has nominated t after)

  -- what is not failed is up
  pub good-up : (input : InputId) (t : ℕ) → IsInput plan input → IsTrue (is_nominated_input plan input) → last + wait ≤ t → failed_by plan signals input t ≡ false
      → signals.up input t ≡ true
  good-up input t has nominated after good = of (signals.up input t) (sym (by.steady input has nominated t after) ∙ good)
    where
      of : (up : Bool) → not up ≡ false → up ≡ true
      of true is = refl
      of false is = cc

  failed-line : (line t : ℕ) → IsNominated plan line → last + wait ≤ t → failed_by plan signals (line_input line) (suc t) ≡ failed_by plan signals (line_input line) t
  failed-line line t nominated after = failed-stays (line_input line) t (IsNominated-within plan line nominated) nominated after

  pub line-stays : (line from t : ℕ) → IsNominated plan line → CarriesOne out line from → last ≤ from → from + delay_of plan line ≤ t → last + wait ≤ t
      → InputStays plan signals out (line_input line) t
  unfolding InputStays
  line-stays line from t nominated carries late after waited = of (signals.up (line_input line) t) (signals.esmc line t) refl refl
    where
      d : ℕ
      d = delay_of plan line

      of : (up esmc : Bool) → signals.up (line_input line) t ≡ up → signals.esmc line t ≡ esmc
          → ((heard plan signals out line (suc t) ≡ heard plan signals out line t) × (failed_by plan signals (line_input line) (suc t) ≡ failed_by plan signals (line_input line) t))
          ⊎ ((failed_by plan signals (line_input line) t ≡ true) × (failed_by plan signals (line_input line) (suc t) ≡ true))
      of true true up on =
          let speaks : speaks_at signals line t ≡ true = rw (up, on) refl in
          let again : speaks_at signals line (suc t) ≡ true = speaks-both line t (suc t) (omega (arith, waited)) (omega (arith, waited)) ∙ speaks in
          let next : suc t - d ≡ suc (t - d) = omega (arith, after) in
          inl (
            speaking-heard line (suc t) (omega (arith, late, after)) again
                ∙ ap (λ n. Some (out line n)) next ∙ ap Some (carries (t - d) (omega (arith, after)))
                ∙ sym (speaking-heard line t (omega (arith, late, after)) speaks),
            failed-line line t nominated waited,
          )
      of true false up off =
          inl (
            by.silent line nominated (suc t) (omega (arith, waited))
                (by.quiet.up (line_input line) t (omega (arith, waited)) ∙ up) (by.quiet.esmc line t (omega (arith, waited)) ∙ off)
                ∙ sym (by.silent line nominated t waited up off),
            failed-line line t nominated waited,
          )
      of false esmc down _ =
          let failed : failed_by plan signals (line_input line) t ≡ true = by.steady (line_input line) (IsNominated-within plan line nominated) nominated t waited ∙ ap not down in
          inr (failed, failed-line line t nominated waited ∙ failed)

  pub source-stays : (source t : ℕ) → IsInput plan (Source source) → IsTrue (is_nominated_input plan (Source source)) → last + wait ≤ t
      → InputStays plan signals out (Source source) t
  unfolding InputStays
  source-stays source t has nominated waited =
      inl (ap Some (by.quiet.source_level source t (omega (arith, waited))), failed-stays (Source source) t has nominated waited)

  -- where each line carries one level from a millisecond on, the network is settled a delay later
  pub carried-settles : (base t : ℕ) → ((line : ℕ) → IsNominated plan line → CarriesOne out line base) → last ≤ base → base + delay ≤ t → last + wait ≤ t
      → IsSettled plan signals out t
  carried-settles base t carries late after waited = record {
    steady = λ input has nominated. by.steady input has nominated t waited;
    carried = λ line nominated up from sent way.
        let d : ℕ = delay_of plan line in
        elim (speaks_or (signals.up (line_input line) t) (signals.esmc line t) up) [
          | inl on ↦
              speaking-heard line t (omega (arith, late, after, by.delays line nominated)) on.1
              ∙ ap Some (constant-at (out line) base (t - d) (carries line nominated) (omega (arith, after, by.delays line nominated))
              ∙ sym (constant-at (out line) base from (carries line nominated) (omega (arith, after, way.recent, by.delays line nominated))))
          | inr off ↦ absurd (by.nothing_on_way line nominated t waited up off.0 from sent way)
        ];
    spoken = λ line nominated speaks.
        some-IsSome (heard plan signals out line t) (out line (t - delay_of plan line))
        (speaking-heard line t (omega (arith, late, after, by.delays line nominated)) speaks);
    silent = λ line nominated up off. by.silent line nominated t waited up off;
    nothing_on_way = λ line nominated up off from sent way. by.nothing_on_way line nominated t waited up off from sent way;
  }
