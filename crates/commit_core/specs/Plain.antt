-- What a plain spine tells of its parts.
use Rattle.std.specs.Prelude.{ℕ, ◌+◌, ◌-◌, List, length, take, drop, map, Some}
use Rattle.std.specs.List.{enumerate_from}
use base.Stored.{gnum}
use Rattle.shadow_frame.specs.declared.Size.{Size}
use Rattle.tree_revision.specs.declared.record.Record.{Record}
use Rattle.tree_revision.specs.Records.{PlainRecord, plain_record}
use Rattle.tree_revision.specs.Ports.{Told}

-- records without pointers
abbrev pub plain_records : List Record → List PlainRecord
plain_records records = map plain_record records

-- what a port tells of a spine of that first size, with that room and these records, of a pass, and of the number of records when the port was made: all that is seen is the first of the records, its own are those that came since, and the whole list is told
abbrev pub plain_told : (first : Size) (room : ℕ) → List PlainRecord → (seen floor looks begun : ℕ) → Told
plain_told first room entries seen floor looks begun = record {
  mark = gnum room;
  first = first;
  seen = take seen entries;
  own = enumerate_from (begun + 1) (drop begun entries);
  permits = room - length entries;
  busy = 0;
  floor = floor;
  looks = looks;
  whole = Some entries;
}
