-- What is read, and what is refused, as the exits of a reader hand it on.
use Rattle.std.proofs.Common.{◌≡◌, Option, Some, None, subst}
use Rattle.hb_page_codec.specs.declared.errors.PageError.{PageError}
use Rattle.hb_page_codec.specs.declared.errors.PageError.TheVariants as errors
use Rattle.hb_page_codec.specs.Reading.{ReadsAs, Fails}

-- where reading gives nothing, any error will do
pub fails : {Y : Type 0} (e : PageError) (read : Option Y) → read ≡ None → Fails e read
fails errors.BadPage read h = h
fails errors.NoMemory read h = tt

pub read_some : {X Y : Type 0} (view : X → Y) (found : Option X) (x : X) (read : Option Y) → found ≡ Some x → ReadsAs view found read → read ≡ Some (view x)
read_some view found x read e h = subst (λ o. ReadsAs view o read) e h

pub read_none : {X Y : Type 0} (view : X → Y) (found : Option X) (read : Option Y) → found ≡ None → ReadsAs view found read → read ≡ None
read_none view found read e h = subst (λ o. ReadsAs view o read) e h
