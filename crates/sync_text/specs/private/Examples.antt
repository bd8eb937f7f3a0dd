-- The form of numbers at its corners.
use Rattle.std.specs.Prelude.{◌≡◌, None, Some, codes, refl}
use Rattle.sync_text.specs.Number.{number_of}

pub zero : number_of (codes "0") ≡ Some 0
unfolding number_of
zero = refl

pub no_bytes : number_of (codes "") ≡ None
unfolding number_of
no_bytes = refl

pub leading_zero : number_of (codes "07") ≡ None
unfolding number_of
leading_zero = refl

pub plus_sign : number_of (codes "+7") ≡ None
unfolding number_of
plus_sign = refl

pub greatest : number_of (codes "18446744073709551615") ≡ Some 18446744073709551615
unfolding number_of
greatest = refl

pub too_great : number_of (codes "18446744073709551616") ≡ None
unfolding number_of
too_great = refl
