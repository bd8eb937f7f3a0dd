-- Answers of two kinds, each with a status of its own, that are one.
use Rattle.std.proofs.Common.{◌≡◌, ℕ, List, refl, sym, subst, ◌∙◌, inl, inr}
use Rattle.std.specs.Prelude.{◌⊎◌}
use Rattle.sync_top.specs.declared.status.Status.{Status}
use Rattle.sync_top.specs.declared.status.Status.TheVariants.{Done, Refuted, Usage, BadPlan, BadCert, BadEvents, BadFrames, ReadFault, WriteFault, TooLong, NoMemory, Stopped}
use Rattle.sync_top.specs.Status.{OnDoneOrRefuted, OnDoneOrStopped}

-- one status, and one text
abbrev pub Same : Status → Status → List ℕ → List ℕ → Type 0
Same status other text another = (status ≡ other) × (text ≡ another)

-- of any two answers of a kind the status and the text are one
abbrev pub IsOne : (Status → List ℕ → Type 0) → Type 0
IsOne Answers = (status other : Status) (text another : List ℕ) → Answers status text → Answers other another → Same status other text another

-- the status tells which of the two it is
done_or_refuted : {Found Against : Type 0} (status : Status) → OnDoneOrRefuted status Found Against → ((status ≡ Done) × Found) ⊎ ((status ≡ Refuted) × Against)
done_or_refuted Done ends = inl (refl, ends)
done_or_refuted Refuted ends = inr (refl, ends)
done_or_refuted Usage ends = absurd ends
done_or_refuted BadPlan ends = absurd ends
done_or_refuted BadCert ends = absurd ends
done_or_refuted BadEvents ends = absurd ends
done_or_refuted BadFrames ends = absurd ends
done_or_refuted ReadFault ends = absurd ends
done_or_refuted WriteFault ends = absurd ends
done_or_refuted TooLong ends = absurd ends
done_or_refuted NoMemory ends = absurd ends
done_or_refuted Stopped ends = absurd ends

done_or_stopped : {Found Short : Type 0} (status : Status) → OnDoneOrStopped status Found Short → ((status ≡ Done) × Found) ⊎ ((status ≡ Stopped) × Short)
done_or_stopped Done ends = inl (refl, ends)
done_or_stopped Stopped ends = inr (refl, ends)
done_or_stopped Usage ends = absurd ends
done_or_stopped BadPlan ends = absurd ends
done_or_stopped BadCert ends = absurd ends
done_or_stopped BadEvents ends = absurd ends
done_or_stopped BadFrames ends = absurd ends
done_or_stopped ReadFault ends = absurd ends
done_or_stopped WriteFault ends = absurd ends
done_or_stopped TooLong ends = absurd ends
done_or_stopped NoMemory ends = absurd ends
done_or_stopped Refuted ends = absurd ends

-- what follows from the one and from the other
pub refuted-more : {Found Against More Further : Type 0} (status : Status) → (Found → More) → (Against → Further) → OnDoneOrRefuted status Found Against
    → OnDoneOrRefuted status More Further
refuted-more {More = More} {Further = Further} status more further ends = elim (done_or_refuted status ends) [
  | inl found ↦ subst (λ s. OnDoneOrRefuted s More Further) (sym found.0) (more found.1)
  | inr against ↦ subst (λ s. OnDoneOrRefuted s More Further) (sym against.0) (further against.1)
]

-- where each of the two has one text, and they never come both, the answer is one
module _ (First Second : List ℕ → Type 0) (one-first : (text another : List ℕ) → First text → First another → text ≡ another)
    (one-second : (text another : List ℕ) → Second text → Second another → text ≡ another)
    (never : (text another : List ℕ) → First text → Second another → ⊥) where
  one-of : (last status other : Status) (text another : List ℕ) → ((status ≡ Done) × First text) ⊎ ((status ≡ last) × Second text)
      → ((other ≡ Done) × First another) ⊎ ((other ≡ last) × Second another) → Same status other text another
  one-of last status other text another (inl first) (inl also) = (first.0 ∙ sym also.0, one-first text another first.1 also.1)
  one-of last status other text another (inl first) (inr second) = absurd (never text another first.1 second.1)
  one-of last status other text another (inr second) (inl first) = absurd (never another text first.1 second.1)
  one-of last status other text another (inr second) (inr also) = (second.0 ∙ sym also.0, one-second text another second.1 also.1)

  pub one-refuted : IsOne (λ status text. OnDoneOrRefuted status (First text) (Second text))
  one-refuted status other text another first second =
      one-of Refuted status other text another (done_or_refuted status first) (done_or_refuted other second)

  pub one-stopped : IsOne (λ status text. OnDoneOrStopped status (First text) (Second text))
  one-stopped status other text another first second =
      one-of Stopped status other text another (done_or_stopped status first) (done_or_stopped other second)
