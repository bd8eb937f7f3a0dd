-- The files of the system, as contracts see them.
use Rattle.std.specs.Prelude.{ℕ, List, [], Option, Some, None}

-- what the system tells of the bytes left of the started file, how often a call has failed, and how often a start was tried
pub record SystemFolder : Type 0 where
  pub left : Option (List ℕ)
  pub faults : ℕ
  pub tries : ℕ

-- the bytes left of a started file, where the system tells them; where no file is started, none are left
abbrev pub left_of_file : {File : Type 0} → (File → Option (List ℕ)) → Option File → Option (List ℕ)
left_of_file remaining None = Some []
left_of_file remaining (Some file) = remaining file
