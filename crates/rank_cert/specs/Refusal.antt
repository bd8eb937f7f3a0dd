-- What a refusal of a certificate is printed with.
use Rattle.std.specs.Prelude.{ℕ}
use Rattle.rank_cert.specs.declared.error.CertErr.{CertErr}
use Rattle.rank_cert.specs.declared.error.CertErr.TheVariants.{Header, Row, Line, Twice, Missing}

-- the number by which a refusal is printed. This project's own
abbrev pub refusal_number : CertErr → ℕ
refusal_number Header = 34
refusal_number (Row n) = 35
refusal_number (Line n) = 36
refusal_number (Twice n) = 37
refusal_number (Missing line) = 38
