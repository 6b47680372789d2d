-- Each change of a range: the clause, what holds of the shards alone, and the areas.
use Rattle.std.proofs.Common.{◌≡◌, ℕ, ◌+◌, ◌*◌, ◌/◌, ◌^◌, ◌<◌, ◌≤◌, Bool, true, false, ◌&&◌, ◌||◌, not, is_some, List, length, Option, Some, None, option_map, if◌then◌else◌, refl, sym, ap, subst, ◌∙◌, arith}
use Rattle.std.specs.FinMap as finite
use Rattle.std.proofs.lemmas.Bool.Decides.{nat_tests}
use Rattle.vm_areas.specs.declared.runs.Area.{Area}
use Rattle.page_ranges.specs.declared.rights.Rights.{Rights}
use Rattle.page_ranges.specs.Ranges.{within}
use Rattle.vm_areas.specs.PageMap.{rights_at}
use Rattle.vm_areas.specs.Painted.{painted, IsPainted}
use Rattle.page_store.specs.Pages.{Page, Pages, page_if, has_any, with_rights, blanked, blank}
use Rattle.lx_memory.specs.Access.{allows}
use Rattle.lx_memory.specs.declared.right.Right.TheVariants.{Execute}
use Rattle.lx_memory.specs.Ranges.{IsOnEach, away, given, cleared, anew, mapped, unmapped, protected, zeroed}
use Rattle.lx_memory.specs.Queries.{all_mapped, any_executable, all_free, no_code, is_free}
use Rattle.lx_memory.proofs.OnEach.{each-on_each}
use Rattle.lx_memory.proofs.PageTests.{passes_each}
use Rattle.guest_mem.specs.Held as held
use Rattle.machine_parts.specs.Parts.{Parts}
use Rattle.shards_stand.specs.Kept.{kept, marked}
use Rattle.shards_stand.specs.Clause.{PageStands, MemoryStands, MemorySound, AreasStand, no_rights, bare, Stays}
use Rattle.shards_stand.specs.RangeChanges.{unmap_pages, zero_pages, map_pages, protect_pages, has_room, each_page, map_in_room, protect_in_room, on_shards, each_kept}
use Rattle.shards_stand.specs.SlotMarks.{wrote}
use Rattle.shards_stand.proofs.Store.{page_or}
use Rattle.shards_stand.proofs.Shardwise.{unmapped-changes, zeroed-changes, protected-changes, mapped-places, protected-places, granted}
use Rattle.shards_stand.proofs.Ranges.{RangeChange, IsPageRule, kept-change, room-change, stands-range, sound-range}
use Rattle.std.proofs.lemmas.List.{length-replicate}

-- ---- pages

away-rule : IsPageRule away true
away-rule = record { whole = λ o page whole is. absurd (cc); no_code = λ o none. refl; keeps = λ o e is. absurd (cc) }

cleared-whole : (o : Option Page) (page : Page) → cleared o ≡ Some page → length page.bytes ≡ 4096
unfolding blank
cleared-whole None page is = absurd (cc)
cleared-whole (Some x) page is = let e : blanked x ≡ page = ap (λ (o : Option Page). page_or page o) is in ap (λ (p : Page). length p.bytes) (sym e) ∙ length-replicate {A = ℕ} 4096 0

cleared-code : (o : Option Page) → page_if (allows Execute) o ≡ None → page_if (allows Execute) (cleared o) ≡ None
cleared-code None none = refl
cleared-code (Some x) none = by x.rights.execute refl
  where
    by : (b : Bool) → x.rights.execute ≡ b → (if b then Some (blanked x) else None) ≡ None
    by true is = let e = ap (λ (b : Bool). if b then Some x else None) (sym is) ∙ none in absurd (cc)
    by false is = refl

cleared-rule : IsPageRule cleared true
cleared-rule = record { whole = λ o page whole is. cleared-whole o page is; no_code = cleared-code; keeps = λ o e is. absurd (cc) }

given-rule : (rights : Rights) → rights.execute ≡ false → IsPageRule (given rights) false
given-rule rights plain = record {
  whole = whole;
  no_code = code;
  keeps = keeps;
}
  where
    whole : (o : Option Page) (page : Page) → ((x : Page) → o ≡ Some x → length x.bytes ≡ 4096) → given rights o ≡ Some page → length page.bytes ≡ 4096
    whole None page w is = absurd (cc)
    whole (Some x) page w is = let e : with_rights rights x ≡ page = ap (λ (o : Option Page). page_or page o) is in ap (λ (p : Page). length p.bytes) (sym e) ∙ w x refl

    code : (o : Option Page) → page_if (allows Execute) o ≡ None → page_if (allows Execute) (given rights o) ≡ None
    code None none = refl
    code (Some x) none = ap (λ (b : Bool). if b then Some (with_rights rights x) else None) plain

    keeps : (o : Option Page) → false ≡ false → is_some o ≡ true → is_some (given rights o) ≡ true
    keeps None e is = is
    keeps (Some x) e is = refl

pub blank-length : length blank ≡ 4096
unfolding blank
blank-length = length-replicate {A = ℕ} 4096 0

granted-rule : (rights : Rights) → rights.execute ≡ false → IsPageRule (granted rights) false
granted-rule rights plain = record {
  whole = whole;
  no_code = code;
  keeps = keeps;
}
  where
    whole : (o : Option Page) (page : Page) → ((x : Page) → o ≡ Some x → length x.bytes ≡ 4096) → granted rights o ≡ Some page → length page.bytes ≡ 4096
    whole None page w is = let e : record { rights = rights; bytes = blank } ≡ page = ap (λ (o : Option Page). page_or page o) is in ap (λ (p : Page). length p.bytes) (sym e) ∙ blank-length
    whole (Some x) page w is = let e : with_rights rights x ≡ page = ap (λ (o : Option Page). page_or page o) is in ap (λ (p : Page). length p.bytes) (sym e) ∙ w x refl

    code : (o : Option Page) → page_if (allows Execute) o ≡ None → page_if (allows Execute) (granted rights o) ≡ None
    code None none = ap (λ (b : Bool). if b then Some (record { rights = rights; bytes = blank }) else None) plain
    code (Some x) none = ap (λ (b : Bool). if b then Some (with_rights rights x) else None) plain

    keeps : (o : Option Page) → false ≡ false → is_some o ≡ true → is_some (granted rights o) ≡ true
    keeps None e is = refl
    keeps (Some x) e is = refl

anew-rule : (rights : Rights) (ends : Bool) → rights.execute ≡ false → IsPageRule (anew rights) ends
anew-rule rights ends plain = record {
  whole = λ o page w is. let e : record { rights = rights; bytes = blank } ≡ page = ap (λ (x : Option Page). page_or page x) is in ap (λ (p : Page). length p.bytes) (sym e) ∙ blank-length;
  no_code = λ o none. ap (λ (b : Bool). if b then Some (record { rights = rights; bytes = blank }) else None) plain;
  keeps = λ o e is. refl;
}

-- ---- how a page stands after a change

rights-none : (r w x : Bool) → (r || w || x) ≡ false → (r ≡ false) × (w ≡ false) × (x ≡ false)
rights-none r w x none = (grind arith, grind arith, grind arith)

-- rights of which there is none
pub no-rights-are : (rights : Rights) → has_any rights ≡ false → rights ≡ no_rights
no-rights-are rights none = let parts = rights-none rights.read rights.write rights.execute none in λ i. record { read = parts.0 i; write = parts.1 i; execute = parts.2 i }

stands-cleared : (k o : Option Page) → PageStands k o → PageStands (cleared k) (cleared o)
stands-cleared None None st = tt
stands-cleared None (Some page) st = ap blanked st
stands-cleared (Some page) o st = ap cleared st

stands-given : (rights : Rights) (k o : Option Page) → has_any rights ≡ false → PageStands k o → PageStands (given rights k) (given rights o)
stands-given rights None None none st = tt
stands-given rights None (Some page) none st = ap (with_rights rights) st ∙ ap (λ (r : Rights). with_rights r bare) (no-rights-are rights none)
stands-given rights (Some page) o none st = ap (given rights) st

stands-granted : (rights : Rights) (k o : Option Page) → is_some o ≡ true → PageStands k o → PageStands (granted rights k) (given rights o)
stands-granted rights None None there st = absurd (cc)
stands-granted rights None (Some page) there st = ap {B = Option Page} (λ (p : Page). Some (with_rights rights p)) st
stands-granted rights (Some page) o there st = ap (given rights) st

-- ---- the areas

pub areas-after : (areas : List Area) (pages pages' : Pages) (first count : ℕ) (r : Option Rights) (g : Option Page → Option Page) → first + count ≤ 2 ^ 52 → AreasStand areas pages → IsPainted areas first count r (painted areas first count r) → length (painted areas first count r) ≤ 1024 → IsOnEach g pages first count pages' → ((q : ℕ) → first ≤ q → q < first + count → r ≡ option_map (λ p. p.rights) (g (finite.get pages q))) → AreasStand (painted areas first count r) pages'
areas-after areas pages pages' first count r g space st new few each rights = record {
  areas_are = record { maximal = new.maximal; few = few };
  below = λ q past. new.at_page q ∙ (let out : within first count q ≡ false = grind (arith, nat_tests) in ap (λ (b : Bool). if b then r else rights_at areas q) out) ∙ st.below q past;
  rights_are = λ q. new.at_page q ∙ by q (within first count q) refl ∙ sym (ap (option_map (λ p. p.rights)) (each q));
}
  where
    by : (q : ℕ) (b : Bool) → within first count q ≡ b → (if within first count q then r else rights_at areas q) ≡ option_map (λ p. p.rights) (if within first count q then g (finite.get pages q) else finite.get pages q)
    by q true is =
        let from : first ≤ q = grind (arith, nat_tests) in
        let below : q < first + count = grind (arith, nat_tests) in
        ap (λ (b : Bool). if b then r else rights_at areas q) is ∙ rights q from below ∙ sym (ap (λ (b : Bool). option_map (λ p. p.rights) (if b then g (finite.get pages q) else finite.get pages q)) is)
    by q false is = ap (λ (b : Bool). if b then r else rights_at areas q) is ∙ st.rights_are q ∙ sym (ap (λ (b : Bool). option_map (λ p. p.rights) (if b then g (finite.get pages q) else finite.get pages q)) is)

-- ---- the code

bare-code : (k o : Option Page) → PageStands k o → no_code o ≡ true → page_if (allows Execute) k ≡ None
bare-code None o st none = refl
bare-code (Some page) o st none = by page.rights.execute (ap no_code (sym st) ∙ none)
  where
    by : (b : Bool) → not b ≡ true → (if b then Some page else None) ≡ None
    by true is = absurd (cc)
    by false is = refl

no-code-there : (M : Parts) (granules marks : ℕ → Option ℕ) (pages : Pages) (first count : ℕ) → MemoryStands M granules pages marks → any_executable pages first count ≡ false → (q : ℕ) → first ≤ q → q < first + count → page_if (allows Execute) (kept M q) ≡ None
no-code-there M granules marks pages first count st none q from below =
    bare-code (kept M q) (finite.get pages q) (st.pages_stand q) (passes_each no_code pages first count (grind arith) q from below)

-- ---- the calls

module _ (code : Pages) (M : Parts) (slot : ℕ) (granules marks : ℕ → Option ℕ) (pages : Pages) (st : MemoryStands M granules pages marks) (sound : MemorySound code M) (own : granules slot ≡ None) (first count : ℕ) (space : first + count ≤ 2 ^ 52) where
  -- munmap, brk downwards, and mmap without any right (in the shards)
  module _ (plain : any_executable pages first count ≡ false) where
    unmap-change : RangeChange M (unmap_pages M first count) first count away true
    unmap-change = kept-change code M sound first count held.unmapped away true unmapped-changes

    unmap-sound : MemorySound code (unmap_pages M first count)
    unmap-sound = sound-range M (unmap_pages M first count) first count away true unmap-change code sound away-rule (no-code-there M granules marks pages first count st plain) space

    pub unmap-stays : Stays code (unmap_pages M first count) granules (unmapped pages first count) (wrote slot (first * 4096) (count * 4096) marks)
    unmap-stays = record {
      stands = stands-range M (unmap_pages M first count) first count away true unmap-change slot granules marks pages (unmapped pages first count) away st (each-on_each away pages first count) (λ q from below. tt) own;
      sound = unmap-sound;
    }

    pub zero-stays : Stays code (zero_pages M first count) granules (zeroed pages first count) (wrote slot (first * 4096) (count * 4096) marks)
    zero-stays =
        let change = kept-change code M sound first count held.zeroed cleared true zeroed-changes in
        record {
          stands = stands-range M (zero_pages M first count) first count cleared true change slot granules marks pages (zeroed pages first count) cleared st (each-on_each cleared pages first count) (λ q from below. stands-cleared (kept M q) (finite.get pages q) (st.pages_stand q)) own;
          sound = sound-range M (zero_pages M first count) first count cleared true change code sound cleared-rule (no-code-there M granules marks pages first count st plain) space;
        }

    pub map-stays : (rights : Rights) → rights.execute ≡ false → (has_any rights ≡ true → has_room M first count 16 ≡ true) → Stays code (map_pages M first count rights) granules (mapped pages first count rights) (wrote slot (first * 4096) (count * 4096) marks)
    map-stays rights no_execute room = by (has_any rights) refl
      where
        by : (b : Bool) → has_any rights ≡ b → Stays code (if b then each_page (map_in_room rights) M first count else unmap_pages M first count) granules (mapped pages first count rights) (wrote slot (first * 4096) (count * 4096) marks)
        by true any =
            let change = room-change code M sound first count (λ h p. held.mapped h p rights) (anew rights) true (mapped-places rights any) (room any) in
            record {
              stands = stands-range M (each_page (map_in_room rights) M first count) first count (anew rights) true change slot granules marks pages (mapped pages first count rights) (anew rights) st (each-on_each (anew rights) pages first count) (λ q from below. refl) own;
              sound = sound-range M (each_page (map_in_room rights) M first count) first count (anew rights) true change code sound (anew-rule rights true no_execute) (no-code-there M granules marks pages first count st plain) space;
            }
        by false none = record {
          stands = stands-range M (unmap_pages M first count) first count away true unmap-change slot granules marks pages (mapped pages first count rights) (anew rights) st (each-on_each (anew rights) pages first count) (λ q from below. ap (λ (r : Rights). record { rights = r; bytes = blank }) (no-rights-are rights none)) own;
          sound = unmap-sound;
        }

    pub protect-stays : (rights : Rights) → rights.execute ≡ false → all_mapped pages first count ≡ true → (has_any rights ≡ true → has_room M first count 16 ≡ true) → Stays code (protect_pages M first count rights) granules (protected pages first count rights) marks
    protect-stays rights no_execute there room = by (has_any rights) refl
      where
        by : (b : Bool) → has_any rights ≡ b → Stays code (if b then each_page (protect_in_room rights) M first count else on_shards (λ h. each_kept (λ g p. held.protected g p rights) h first count) M 16) granules (protected pages first count rights) marks
        by true any =
            let change = room-change code M sound first count (λ h p. held.protected h p rights) (granted rights) false (protected-places rights any) (room any) in
            record {
              stands = stands-range M (each_page (protect_in_room rights) M first count) first count (granted rights) false change slot granules marks pages (protected pages first count rights) (given rights) st (each-on_each (given rights) pages first count)
                  (λ q from below. stands-granted rights (kept M q) (finite.get pages q) (passes_each is_some pages first count there q from below) (st.pages_stand q)) own;
              sound = sound-range M (each_page (protect_in_room rights) M first count) first count (granted rights) false change code sound (granted-rule rights no_execute) (no-code-there M granules marks pages first count st plain) space;
            }
        by false none =
            let change = kept-change code M sound first count (λ g p. held.protected g p rights) (given rights) false (protected-changes rights) in
            record {
              stands = stands-range M (on_shards (λ h. each_kept (λ g p. held.protected g p rights) h first count) M 16) first count (given rights) false change slot granules marks pages (protected pages first count rights) (given rights) st (each-on_each (given rights) pages first count)
                  (λ q from below. stands-given rights (kept M q) (finite.get pages q) none (st.pages_stand q)) own;
              sound = sound-range M (on_shards (λ h. each_kept (λ g p. held.protected g p rights) h first count) M 16) first count (given rights) false change code sound (given-rule rights no_execute) (no-code-there M granules marks pages first count st plain) space;
            }

  -- brk upwards: the pages are free, so no mark stands on them
  pub raise-stays : (rights : Rights) → rights.execute ≡ false → has_any rights ≡ true → all_free pages first count ≡ true → has_room M first count 16 ≡ true → Stays code (map_pages M first count rights) granules (mapped pages first count rights) marks
  raise-stays rights no_execute any free room =
      subst (λ (b : Bool). Stays code (if b then each_page (map_in_room rights) M first count else unmap_pages M first count) granules (mapped pages first count rights) marks) (sym any) (record {
        stands = stands-range M (each_page (map_in_room rights) M first count) first count (anew rights) false quiet slot granules marks pages (mapped pages first count rights) (anew rights) st (each-on_each (anew rights) pages first count) (λ q from below. refl) own;
        sound = sound-range M (each_page (map_in_room rights) M first count) first count (anew rights) false quiet code sound (anew-rule rights false no_execute) (λ q from below. ap (λ (o : Option Page). page_if (allows Execute) o) (gone q from below)) space;
      })
    where
      gone-by : (k o : Option Page) → PageStands k o → is_free o ≡ true → k ≡ None
      gone-by None o st_ is = refl
      gone-by (Some page) o st_ is = let e = ap is_free (sym st_) ∙ is in absurd (cc)

      gone : (q : ℕ) → first ≤ q → q < first + count → kept M q ≡ None
      gone q from below = gone-by (kept M q) (finite.get pages q) (st.pages_stand q) (passes_each is_free pages first count free q from below)

      change : RangeChange M (each_page (map_in_room rights) M first count) first count (anew rights) true
      change = room-change code M sound first count (λ h p. held.mapped h p rights) (anew rights) true (mapped-places rights any) room

      off : (s g : ℕ) (m w : Bool) → marked M s g ≡ m → within first count (g / 256) ≡ w → (m && not (true && w)) ≡ (m && not (false && w))
      off s g true true is in_ =
          let kept_ = sound.marks_kept s g is in
          let from : first ≤ g / 256 = grind (arith, nat_tests) in
          let below : g / 256 < first + count = grind (arith, nat_tests) in
          let none : is_some (kept M (g / 256)) ≡ false = ap (λ (o : Option Page). is_some o) (gone (g / 256) from below) in
          absurd (cc)
      off s g true false is in_ = refl
      off s g false w is in_ = refl

      quiet : RangeChange M (each_page (map_in_room rights) M first count) first count (anew rights) false
      quiet = record { kept_are = change.kept_are; there = change.there; marks_are = λ s g. change.marks_are s g ∙ off s g (marked M s g) (within first count (g / 256)) refl refl }
