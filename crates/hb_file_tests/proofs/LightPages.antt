-- What a page in memory weighs: no more than the file allows.
use Rattle.std.proofs.Common.{◌≡◌, ℕ, ◌≤◌, ◌<◌, ◌^◌, ◌==◌, Bool, true, false, Some, arith}
use Rattle.std.specs.Prelude.{if◌then◌else◌}
use Rattle.hb_frag.specs.declared.pages.LivePage.{LivePage}
use Rattle.hb_frag.specs.declared.pages.Page.TheVariants.{Live}
use Rattle.hb_frag.specs.Leaves.{weight_of}
use Rattle.hb_ops.specs.Sound.{FitsFile}
use Rattle.hb_store.specs.States.{StoreState, IsMemory, in_memory}

capped : (level_is_0 : Bool) (weight dcap icap : ℕ) → weight ≤ (if level_is_0 then dcap else icap) → dcap ≤ 48 → icap ≤ 256 → weight < 2 ^ 32
capped true weight dcap icap light few many = omega arith
capped false weight dcap icap light few many = omega arith

pub light_page : (st : StoreState) (id : ℕ) (page : LivePage) → IsMemory st → in_memory st id ≡ Some (Live page) → weight_of page.frag < 2 ^ 32
light_page st id page memory is =
    let good = memory.good id (Live page) is in
    let made : FitsFile st.meta page = good.2.1 in
    capped (page.level == 0) (weight_of page.frag) st.meta.dcap st.meta.icap made.filled.light memory.stands.layout.dcap_most memory.stands.layout.icap_most
