-- What an operation leaves of what the file says of itself: its number of attributes stays, and its height never falls.
use Rattle.hb_steps.proofs.Memory.Names.{◌≡◌, ℕ, ◌≤◌, Option, Some, None, refl, sym, ap, ◌∙◌, subst, arith, LivePage, Meta, Op, MayDo, change_of, read_here, StoreState}
use Rattle.hb_ops.specs.declared.operations.Op.TheVariants.{Put, Del, Extract, Post, Merge, Grow}

pub record KeepsMeta (old new : Meta) : Type 0 where
  pub k : new.k ≡ old.k
  pub height : old.height ≤ new.height

pub same_meta : (old new : Meta) → new ≡ old → KeepsMeta old new
same_meta old new is = record { k = ap (λ (m : Meta). m.k) is; height = omega (arith, ap (λ (m : Meta). m.height) is) }

change_keeps : (op : Op) (meta : Meta) (first second third : Option LivePage) → KeepsMeta meta (change_of op meta first second third).meta
change_keeps (Put id rec) meta None second third = same_meta meta meta refl
change_keeps (Put id rec) meta (Some page) second third = same_meta meta meta refl
change_keeps (Del id point) meta None second third = same_meta meta meta refl
change_keeps (Del id point) meta (Some page) second third = same_meta meta meta refl
change_keeps (Extract source fresh path cuts free_after) meta None second third = same_meta meta meta refl
change_keeps (Extract source fresh path cuts free_after) meta (Some page) second third = record { k = refl; height = omega arith }
change_keeps (Post parent way inner area) meta None second third = same_meta meta meta refl
change_keeps (Post parent way inner area) meta (Some page) second third = same_meta meta meta refl
change_keeps (Merge parent keep gone) meta None second third = same_meta meta meta refl
change_keeps (Merge parent keep gone) meta (Some above) None third = same_meta meta meta refl
change_keeps (Merge parent keep gone) meta (Some above) (Some kept) None = same_meta meta meta refl
change_keeps (Merge parent keep gone) meta (Some above) (Some kept) (Some going) = record { k = refl; height = omega arith }
change_keeps (Grow fresh free_after) meta first second third = record { k = refl; height = omega arith }

-- so does a deed
pub deed_keeps_meta : (op : Option Op) (mark : ℕ) (meta : Meta) (fetched new : StoreState) → fetched.meta ≡ meta → MayDo op mark fetched new → KeepsMeta meta new.meta
deed_keeps_meta None mark meta fetched new same does = same_meta meta new.meta (ap (λ (st : StoreState). st.meta) does ∙ same)
deed_keeps_meta (Some op) mark meta fetched new same does =
    subst (λ (m : Meta). KeepsMeta m new.meta) same
    (subst (KeepsMeta fetched.meta) (sym does.commits.meta) (change_keeps op fetched.meta (read_here fetched op 0) (read_here fetched op 1) (read_here fetched op 2)))
