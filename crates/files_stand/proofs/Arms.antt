-- What arms interests activates knotes, and what ends a file takes out both.
use Rattle.std.proofs.Common.{◌≡◌, ℕ, Bool, true, false, not, ◌||◌, ◌&&◌, List, map, Option, Some, None, refl, sym, ap, ◌∙◌}
use Rattle.std.specs.Prelude.{◌==◌, filter, if◌then◌else◌}
use Rattle.std.specs.Option.{option_map}
use Rattle.lx_machine.specs.Lists.{at_place}
use Rattle.linux_abi.specs.EpollBits.{is_edge}
use Rattle.lx_machine.specs.Interests.{if_armed, is_open_of, is_elsewhere}
use Rattle.lx_machine.specs.declared.files.FileKind.{FileKind}
use Rattle.lx_machine.specs.declared.files.Interest.{Interest}
use Rattle.lx_machine.specs.declared.files.OpenFile.{OpenFile}
use Rattle.kqueue_core.specs.declared.knotes.Filter.{Filter}
use Rattle.kqueue_core.specs.declared.knotes.Filter.TheVariants.{Read, Write}
use Rattle.kqueue_core.specs.declared.knotes.Knote.{Knote}
use Rattle.kqueue_core.specs.declared.knotes.Watch.{Watch}
use Rattle.kqueue_core.specs.Changes.{activated_where, is_apart_from}
use Rattle.kqueue_core.specs.Watches.{activated_watch}
use Rattle.kqueue_core.specs.Knotes.{awake}
use Rattle.files_stand.specs.Same.{Same, Name, is_kept, seen, stood_for, stood_by}
use Rattle.kqueue_laws.specs.Pairs.{is_pair}
use Rattle.kqueue_core.proofs.Tallies.{tally-map, tally-filter, tally-same}
use Rattle.bsd_files.specs.Ops.{is_this}

-- the interest is armed where it is an edge
abbrev pub armed : Interest → Interest
armed i = record i { armed = is_edge i.asked }

abbrev pub armed_if : Bool → Option Interest → Option Interest
armed_if b o = if b then option_map armed o else o

seen_armed : (b : Bool) (i : Interest) → (p : ℕ → ℕ → Option Interest → Bool) → let j : Interest = if b then record i { armed = true } else i in p j.file j.descriptor (Some (seen j)) ≡ p i.file i.descriptor (armed_if b (Some (seen i)))
seen_armed true i p = refl
seen_armed false i p = refl

-- a pair whose one knote is awake
awake_pair : (b : Bool) (file descriptor : ℕ) (r k : Knote) → is_pair r k ≡ b → stood_by file descriptor (Some (record r { active = true })) (Some k) ≡ option_map armed (stood_by file descriptor (Some r) (Some k))
awake_pair true file descriptor r k e = rw e refl
awake_pair false file descriptor r k e = rw e refl

or_true : (b : Bool) → (b || true) ≡ true
or_true true = refl
or_true false = refl

awake_pair_write : (b : Bool) (file descriptor : ℕ) (r k : Knote) → is_pair r k ≡ b → stood_by file descriptor (Some r) (Some (record k { active = true })) ≡ option_map armed (stood_by file descriptor (Some r) (Some k))
awake_pair_write true file descriptor r k e = rw e (rw (or_true r.active) refl)
awake_pair_write false file descriptor r k e = rw e refl

stood_awake_read : (file descriptor : ℕ) (r k : Option Knote) → stood_by file descriptor (awake r) k ≡ option_map armed (stood_by file descriptor r k)
stood_awake_read file descriptor None k = refl
stood_awake_read file descriptor (Some r) None = refl
stood_awake_read file descriptor (Some r) (Some k) = awake_pair (is_pair r k) file descriptor r k refl

stood_awake_write : (file descriptor : ℕ) (r k : Option Knote) → stood_by file descriptor r (awake k) ≡ option_map armed (stood_by file descriptor r k)
stood_awake_write file descriptor None k = refl
stood_awake_write file descriptor (Some r) None = refl
stood_awake_write file descriptor (Some r) (Some k) = awake_pair_write (is_pair r k) file descriptor r k refl

stood_activated : (b : Bool) (f : Filter) (w : Watch) → (p : ℕ → ℕ → Option Interest → Bool) → let v : Watch = if b then activated_watch f w else w in p v.file v.descriptor (stood_for v) ≡ p w.file w.descriptor (armed_if b (stood_for w))
stood_activated true Read w p = ap (p w.file w.descriptor) (stood_awake_read w.file w.descriptor w.read w.write)
stood_activated true Write w p = ap (p w.file w.descriptor) (stood_awake_write w.file w.descriptor w.read w.write)
stood_activated false f w p = refl

abbrev pub with_kept : Option Name → (ℕ → ℕ → Option Interest → Bool) → ℕ → ℕ → Option Interest → Bool
with_kept x p file descriptor o = is_kept x file descriptor && p file descriptor o

-- an event that arms interests and activates knotes of one filter, in a flux or not
pub arm_same : (x : Option Name) (k : FileKind) (f : Filter) (files : List (Option OpenFile)) (is : List Interest) (ws : List Watch) → Same x is ws → Same x (map (if_armed k files) is) (map (activated_where (is_this k files) f) ws)
arm_same x k f files is ws st p =
    tally-map (if_armed k files) (λ i. with_kept x p i.file i.descriptor (Some (seen i))) is
    ∙ tally-same _ _ (λ i. seen_armed (is_open_of k (at_place files i.file)) i (with_kept x p)) is
    ∙ st (λ file descriptor o. p file descriptor (armed_if (is_open_of k (at_place files file)) o))
    ∙ sym (tally-same _ _ (λ w. stood_activated (is_open_of k (at_place files w.file)) f w (with_kept x p)) ws)
    ∙ sym (tally-map (activated_where (is_this k files) f) (λ w. with_kept x p w.file w.descriptor (stood_for w)) ws)

and_swap : (a b c : Bool) → (a && (b && c)) ≡ (b && (a && c))
and_swap true b c = refl
and_swap false true c = refl
and_swap false false c = refl

-- the end of an open file
pub leave_same : (x : Option Name) (file : ℕ) (is : List Interest) (ws : List Watch) → Same x is ws → Same x (filter (is_elsewhere file) is) (filter (is_apart_from file) ws)
leave_same x file is ws st p =
    tally-filter (is_elsewhere file) (λ i. with_kept x p i.file i.descriptor (Some (seen i))) is
    ∙ tally-same _ _ (λ i. and_swap (is_elsewhere file i) (is_kept x i.file i.descriptor) (p i.file i.descriptor (Some (seen i)))) is
    ∙ st (λ f d o. not (f == file) && p f d o)
    ∙ sym (tally-same _ _ (λ w. and_swap (is_apart_from file w) (is_kept x w.file w.descriptor) (p w.file w.descriptor (stood_for w))) ws)
    ∙ sym (tally-filter (is_apart_from file) (λ w. with_kept x p w.file w.descriptor (stood_for w)) ws)
