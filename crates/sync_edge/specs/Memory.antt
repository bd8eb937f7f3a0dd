-- A folder and a sink in memory: what they hold, and which of their calls fail.
use Rattle.std.specs.Prelude.{◌≡◌, ℕ, ◌==◌, nat_lt, Bool, List, [], map, drop, slice_get, Option, Some, None}
use Rattle.std.specs.List.{list_any, list_all}
use Rattle.std.specs.FinMap.{from_entries}
use Rattle.sync_edge.specs.declared.memory_folder.MemFile.{MemFile}
use Rattle.sync_edge.specs.Faults.{one_more}
use Rattle.sync_edge.specs.Contents.{Contents}

-- a folder in memory: its files, at most how many bytes one read gives, the numbers of the calls that fail,
-- the number of the next call, the bytes left of the started file, how often a call has failed, and how often a
-- start was tried
pub record MemoryFolder : Type 0 where
  pub files : List MemFile
  pub piece : ℕ
  pub fails : List ℕ
  pub number : ℕ
  pub left : List ℕ
  pub faults : ℕ
  pub tries : ℕ

-- the next call is one of those that fail
abbrev pub fails_at : List ℕ → ℕ → Bool
fails_at fails number = list_any (λ fail. fail == number) fails

-- no call from the next one on is one of those that fail
abbrev pub none_from : List ℕ → ℕ → Bool
none_from fails number = list_all (λ fail. nat_lt fail number) fails

-- the bytes under each name; of files with one name the first counts
abbrev pub contents_of : List MemFile → Contents
contents_of files = from_entries (map (λ file. (file.name, file.bytes)) files)

-- the bytes of a file, and no bytes where there is none
abbrev pub bytes_of : Option MemFile → List ℕ
bytes_of None = []
bytes_of (Some file) = file.bytes

-- what is left of the file at a place, of which so many bytes were read
abbrev pub left_of : List MemFile → Option ℕ → ℕ → List ℕ
left_of files None at = []
left_of files (Some place) at = drop at (bytes_of (slice_get files place))

-- what the members of the trait are for a folder in memory: its contents are told
abbrev pub told_contents : MemoryFolder → Option Contents
told_contents folder = Some (contents_of folder.files)

-- and so is what is left
abbrev pub told_left : MemoryFolder → Option (List ℕ)
told_left folder = Some folder.left

-- no call to come is listed
abbrev pub is_steady : MemoryFolder → Bool
is_steady folder = none_from folder.fails folder.number

-- how often a call has failed
abbrev pub fault_count : MemoryFolder → ℕ
fault_count folder = folder.faults

-- how often a start was tried
abbrev pub try_count : MemoryFolder → ℕ
try_count folder = folder.tries

-- a call was counted, and left the files and the calls that fail as they were
pub record IsNextCall (old new : MemoryFolder) : Type 0 where
  pub number : new.number ≡ one_more old.number
  pub files : new.files ≡ old.files
  pub piece : new.piece ≡ old.piece
  pub fails : new.fails ≡ old.fails

-- a sink in memory: what was written, the room that is left, at most how many bytes one write takes, the
-- numbers of the writes that fail, the number of the next write, and how often a write has failed
pub record MemorySink : Type 0 where
  pub written : List ℕ
  pub room : ℕ
  pub piece : ℕ
  pub fails : List ℕ
  pub number : ℕ
  pub faults : ℕ

-- what the members of the trait are for a sink in memory: what was written is told
abbrev pub told_written : MemorySink → Option (List ℕ)
told_written sink = Some sink.written

-- how often a write has failed
abbrev pub sink_faults : MemorySink → ℕ
sink_faults sink = sink.faults

-- a write was counted, and left the writes that fail as they were
pub record IsNextWrite (old new : MemorySink) : Type 0 where
  pub number : new.number ≡ one_more old.number
  pub piece : new.piece ≡ old.piece
  pub fails : new.fails ≡ old.fails
