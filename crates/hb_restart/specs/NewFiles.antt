-- What a new file says of itself, and the file: one page, which is empty.
use Rattle.std.specs.Prelude.{ℕ, [], ◌∷◌}
use Rattle.hb_space.specs.Boxes.{whole_area}
use Rattle.hb_frag.specs.declared.leaves.Leaf.TheVariants.{Records}
use Rattle.hb_frag.specs.declared.pages.Page.{Page}
use Rattle.hb_frag.specs.declared.pages.Page.TheVariants.{Live}
use Rattle.hb_frag.specs.Trees.{Tip}
use Rattle.hb_layout.specs.declared.meta.Meta.{Meta}
use Rattle.hb_ops.specs.Files.{FileState}
use Rattle.hb_restart.specs.declared.layout.Layout.{Layout}

abbrev pub new_meta : Layout → Meta
new_meta l = record { k = l.k; pages = l.pages; log = l.log; dcap = l.dcap; icap = l.icap; root = 1; height = 1; high = 1; live = 1; free = 0 }

abbrev pub new_page : ℕ → Page
new_page k = Live (record { level = 0; area = whole_area k; frag = Tip (Records []) })

-- the file of this page alone
abbrev pub lone : Meta → Page → FileState
lone meta page = record { meta = meta; pages = page ∷ [] }

abbrev pub new_file : Layout → FileState
new_file l = lone (new_meta l) (new_page l.k)
