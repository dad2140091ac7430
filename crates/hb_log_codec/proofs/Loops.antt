-- A loop that reads one thing after the other, and stops.
use Rattle.std.proofs.Common.{◌≡◌, ℕ, ◌-◌, ◌<◌, List, Option, None}
use Rattle.hb_page_codec.specs.Reading.{many_at}
use Rattle.hb_log_codec.specs.Reading.{StopsFor}
use Rattle.hb_log_codec.specs.declared.reading.GroupStop.{GroupStop}
use Rattle.hb_log_codec.specs.declared.reading.GroupStop.TheVariants.{Bad, NoMemory}
use Rattle.hb_page_codec.proofs.Facts.LoopLaws.{with_front, stops}

-- where one thing isn't read, all are not; want of memory says nothing
pub stops_for : {A : Type 0} (read : List ℕ → Option (A × List ℕ)) (front : List A) (count i : ℕ) (bytes : List ℕ) (total : Option (List A × List ℕ)) (stop : GroupStop) → i < count → StopsFor (read bytes ≡ None) stop
    → with_front front (many_at read (count - i) bytes) ≡ total → StopsFor (total ≡ None) stop
stops_for read front count i bytes total Bad lt h so_far = stops read front count i bytes total lt h so_far
stops_for read front count i bytes total NoMemory lt h so_far = tt
