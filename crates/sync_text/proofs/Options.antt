-- One optional value, or else another.
use Rattle.std.proofs.Common.{◌≡◌, false, Option, Some, None, refl}
use Rattle.std.specs.Option.{option_or, unwrap_or, is_some}

-- nothing stands behind a value
pub option_or-none : {A : Type 0} (o : Option A) → option_or o None ≡ o
option_or-none None = refl
option_or-none (Some x) = refl

-- of three the first that is there
pub option_or-assoc : {A : Type 0} (a b c : Option A) → option_or (option_or a b) c ≡ option_or a (option_or b c)
option_or-assoc None b c = refl
option_or-assoc (Some x) b c = refl

-- and the value itself, with one to fall back on
pub unwrap_or-option_or : {A : Type 0} (first then : Option A) (last : A) → unwrap_or (option_or first then) last ≡ unwrap_or first (unwrap_or then last)
unwrap_or-option_or None then last = refl
unwrap_or-option_or (Some x) then last = refl

-- what is not there is nothing
pub is_some-false : {A : Type 0} (o : Option A) → is_some o ≡ false → o ≡ None
is_some-false None none = refl
is_some-false (Some x) none = cc
