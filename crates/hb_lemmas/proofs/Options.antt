-- What is said of a value that an option or a result has, where it has one.
use Rattle.std.proofs.Common.{◌≡◌, false, Option, Some, None, IfSome, IsSome, IsSomeAnd, is_some, Result, Ok, Err, OnErr, OnOk, refl, sym, ap, subst, ◌∙◌}
use Rattle.std.proofs.lemmas.Option.{none-some, same_Some}
use Rattle.std.specs.Option.{option_and_then, option_map}
use Rattle.hb_lemmas.specs.Options.{◌>>=◌}

-- the value of an option that has one
pub some_value : {X : Type 0} (o : Option X) → IsSome o → (x : X) × (o ≡ Some x)
some_value None some = cc
some_value (Some x) some = (x, refl)

pub has_value : {X : Type 0} (o : Option X) (x : X) → o ≡ Some x → IsSome o
has_value o x is = ap is_some is

pub not_none : {X : Type 0} (o : Option X) (x : X) → o ≡ Some x → o ≡ None → ⊥
not_none o x is none = none-some x (sym none ∙ is)

-- one that has a value has no other
pub one_value : {X : Type 0} (o : Option X) (x y : X) → o ≡ Some x → o ≡ Some y → x ≡ y
one_value o x y first second = same_Some x y (sym first ∙ second)

-- one that has none
pub none_so : {X : Type 0} (o : Option X) → is_some o ≡ false → o ≡ None
none_so None off = refl
none_so (Some x) off = cc off

pub none_unless : {X : Type 0} (o : Option X) → ((x : X) → o ≡ Some x → ⊥) → o ≡ None
none_unless None never = refl
none_unless (Some x) never = absurd (never x refl)

pub not_there : {X : Type 0} (o : Option X) → o ≡ None → IsSome o → ⊥
not_there None none there = cc there
not_there (Some x) none there = cc none

-- what has a value now had one before, where nothing stays nothing
pub was_some : {X : Type 0} (old new : Option X) → (old ≡ None → new ≡ None) → IsSome new → IsSome old
was_some None new stays some = absurd (not_there new (stays refl) some)
was_some (Some x) new stays some = refl

-- two options that have what the other has are the same
pub same_options : {X : Type 0} (a b : Option X) → ((x : X) → a ≡ Some x → b ≡ Some x) → ((x : X) → b ≡ Some x → a ≡ Some x) → a ≡ b
same_options None None to from = refl
same_options None (Some x) to from = from x refl
same_options (Some x) b to from = sym (to x refl)

-- what is said of the value, where it is known
pub at_value : {X : Type 0} (o : Option X) (P : X → Type 0) (x : X) → o ≡ Some x → IfSome o P → P x
at_value {X = X} o P x is h = let Q : Option X → Type 0 = λ v. IfSome v P in subst Q is h

-- and the other way
pub of_value : {X : Type 0} (o : Option X) (P : X → Type 0) (x : X) → o ≡ Some x → P x → IfSome o P
of_value {X = X} o P x is h = let Q : Option X → Type 0 = λ v. IfSome v P in subst Q (sym is) h

-- what holds of the value, wherever there is one
pub if_value : {X : Type 0} (o : Option X) (P : X → Type 0) → ((x : X) → o ≡ Some x → P x) → IfSome o P
if_value None P h = tt
if_value (Some x) P h = h x refl

-- the value of which something is said, and the other way
pub value_and : {X : Type 0} (o : Option X) (P : X → Type 0) → IsSomeAnd o P → (x : X) × (o ≡ Some x) × P x
value_and None P h = absurd h
value_and (Some x) P h = (x, refl, h)

pub some_and_at : {X : Type 0} (o : Option X) (P : X → Type 0) (x : X) → o ≡ Some x → P x → IsSomeAnd o P
some_and_at {X = X} o P x is h = let Q : Option X → Type 0 = λ v. IsSomeAnd v P in subst Q (sym is) h

pub at_some_and : {X : Type 0} (o : Option X) (P : X → Type 0) (x : X) → o ≡ Some x → IsSomeAnd o P → P x
at_some_and {X = X} o P x is h = let Q : Option X → Type 0 = λ v. IsSomeAnd v P in subst Q is h

pub some_of_and : {X : Type 0} (o : Option X) (P : X → Type 0) → IsSomeAnd o P → IsSome o
some_of_and None P h = absurd h
some_of_and (Some x) P h = refl

-- it can't be what it is not
pub not_both : {X : Type 0} (o : Option X) (P : X → Type 0) → IsSomeAnd o (λ x. ¬ (P x)) → IfSome o P → ⊥
not_both None P but all = but
not_both (Some x) P but all = but all

-- what a step that gave something was fed
pub some_of_then : {A B : Type 0} (f : A → Option B) (o : Option A) (b : B) → option_and_then f o ≡ Some b → (a : A) × (o ≡ Some a)
some_of_then f None b e = cc
some_of_then f (Some a) b e = (a, refl)

pub some_of_map : {A B : Type 0} (f : A → B) (o : Option A) (b : B) → option_map f o ≡ Some b → (a : A) × (o ≡ Some a)
some_of_map f None b e = cc
some_of_map f (Some a) b e = (a, refl)

-- what holds anyway holds on success
pub on_ok : {T E : Type 0} (r : Result T E) (P : Type 0) → P → OnOk r P
on_ok (Ok v) P h = h
on_ok (Err e) P h = tt

-- and what follows from two facts holds where both do
pub on_ok_both : {T E P Q R : Type 0} (r : Result T E) → (P → Q → R) → OnOk r P → OnOk r Q → OnOk r R
on_ok_both (Ok v) f p q = f p q
on_ok_both (Err e) f p q = tt

-- and what holds anyway holds of an error
pub on_err : {T E P : Type 0} (r : Result T E) → P → OnErr r P
on_err (Ok v) h = tt
on_err (Err e) h = h

-- nothing was made of nothing
pub none_mapped : {A B : Type 0} (f : A → B) (o : Option A) → option_map f o ≡ None → o ≡ None
none_mapped f None none = refl
none_mapped f (Some x) none = cc none

-- what two successes gave is the same
pub same_Ok : {T E : Type 0} (x y : T) → ◌≡◌ {A = Result T E} (Ok x) (Ok y) → x ≡ y
same_Ok x y e = cc

-- and a success is no error
pub ok_not_err : {T E : Type 0} (x : T) (e : E) → ◌≡◌ {A = Result T E} (Ok x) (Err e) → ⊥
ok_not_err x e is = cc is

-- what a step of reading gave was fed by a value
pub bind_some : {A B : Type 0} (r : Option A) (f : A → Option B) (y : B) → (r >>= f) ≡ Some y → (x : A) × (r ≡ Some x) × (f x ≡ Some y)
bind_some (Some x) f y e = (x, refl, e)
bind_some None f y e = cc e
