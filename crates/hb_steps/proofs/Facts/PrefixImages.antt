-- Images of a disk that hold a prefix of a machine's order.
use Rattle.hb_steps.proofs.Facts.Names.{ℕ, ◌≤◌, List, ◌++◌, sym, ap, ◌∙◌, arith, Files, Machine, settled_count, Entry}
use Rattle.std.proofs.lemmas.List.{length-append, take-append-le}
use Rattle.hb_steps.specs.KeptMachine.{CoreKeeps}
use Rattle.hb_steps.specs.MomentLaws.{ImagesHavePrefixes, IsPrefixImage}
use Rattle.hb_set.specs.Machine.{RecordSet}
use Rattle.hb_set.specs.Order.{result_of}
use Rattle.hb_store.specs.Keeps.{OpensToEither}

-- fewer entries are asked for
pub prefix_less : (n : RecordSet) (order : List Entry) (least more : ℕ) (bytes : List ℕ) → least ≤ more → IsPrefixImage n order more bytes → IsPrefixImage n order least bytes
prefix_less n order least more bytes le image =
    let enough = image.enough in
    record { s = image.s; opens = image.opens; sound = image.sound; pages = image.pages; count = image.count; enough = omega (arith, le, enough); inside = image.inside; contents = image.contents }

-- a prefix of an order is one of a longer order
pub prefix_longer : (n : RecordSet) (order more : List Entry) (least : ℕ) (bytes : List ℕ) → IsPrefixImage n order least bytes → IsPrefixImage n (order ++ more) least bytes
prefix_longer n order more least bytes image =
    let long = length-append {A = Entry} order more in
    let inside = image.inside in
    record {
      s = image.s;
      opens = image.opens;
      sound = image.sound;
      pages = image.pages;
      count = image.count;
      enough = image.enough;
      inside = omega (arith, inside, long);
      contents = image.contents ∙ ap (result_of n) (sym (take-append-le image.count order more inside));
    }

-- What a machine keeps of an image that opens to one of its files: a prefix with all that is settled.
pub settled_prefix : ImagesHavePrefixes → (n : RecordSet) (m : Machine) (files : Files) (bytes : List ℕ) → CoreKeeps n m files → OpensToEither files.durable files.later bytes → IsPrefixImage n m.order (settled_count m) bytes
settled_prefix images n m files bytes keeps opens = (images n m files bytes keeps opens).image
