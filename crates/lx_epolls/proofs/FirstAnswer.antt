-- Where no two interests have the same name, the first due ones are an answer.
use Rattle.std.proofs.Common.{◌≡◌, ℕ, zero, suc, ◌-◌, ◌==◌, ◌<◌, ◌≤◌, ◌∙◌, min, is_some, true, false, List, [], ◌∷◌, ◌++◌, append_assoc, length, length-take, map, filter, take, drop, get_or, Option, Some, None, Result, Ok, Err, OnOk, refl, arith}
use Rattle.std.specs.List.{list_any}
use Rattle.std.proofs.lemmas.Bool.Decides.{nat_tests}
use Rattle.std.proofs.lemmas.List.{take_all}
use Rattle.lx_machine.proofs.Differ.{all_taken, any_mapped, differ_filtered, differ_mapped, differ_taken, none_filtered}
use Rattle.lx_machine.specs.Lists.{at_place, bind}
use Rattle.lx_machine.specs.Calls.{low_argument}
use Rattle.lx_machine.specs.declared.calls.LxCall.{LxCall}
use Rattle.lx_machine.specs.declared.files.Files.{Files}
use Rattle.lx_machine.specs.declared.files.Interest.{Interest}
use Rattle.lx_machine.specs.declared.label.Pick.{Pick}
use Rattle.lx_machine.specs.Interests.{has_name_of, is_picked}
use Rattle.lx_machine.specs.Epoll.{are_apart, are_distinct, are_due, epoll_number, interests_in, interests_of, is_answer, is_due, is_due_interest, is_left, is_same, named}
use Rattle.lx_machine.specs.EpollWait.{epoll_can_move, epoll_moved, first_due, first_picks, held_epoll, most_of, pick_of, reports_if, reports_of}

same_turns : (a b : ℕ) → (a == b) ≡ (b == a)
same_turns a b = grind (arith, nat_tests)

-- picks are the same where their interests have the same name
same_name : (i j : Interest) → is_same (pick_of i) (pick_of j) ≡ has_name_of i j
same_name i j = let a = same_turns i.file j.file in let b = same_turns i.descriptor j.descriptor in rw (a, b) refl

-- the picks of all due interests
abbrev due_picks : Files → List Interest → List Pick
due_picks F is = map pick_of (filter (is_due F) is)

-- a due interest is picked first
next_due : (F : Files) (most : ℕ) (is : List Interest) (d : Interest) → 0 < most → 1 ≤ length is → is_due F (get_or is 0 d) ≡ true →
    first_due F most is ≡ pick_of (get_or is 0 d) ∷ first_due F (most - 1) (take (length is - 1) (drop 1 is))
next_due F zero is d m n h = grind arith
next_due F (suc most) [] d m n h = grind arith
next_due F (suc most) (i ∷ is) d m n h =
    let e : suc most - 1 ≡ most = omega arith in
    let k : length (i ∷ is) - 1 ≡ length is = omega arith in
    let all : take (length is) is ≡ is = take_all (length is) is (omega arith) in
    rw (e, k, all, h) refl

on_ok : {T E : Type 0} (r : Result T E) (P Q : Type 0) → (P → Q) → OnOk r P → OnOk r Q
on_ok (Ok x) P Q f p = f p
on_ok (Err e) P Q f p = p

-- the picks of the interests behind a due one, behind its own
pub behind_due : {T E : Type 0} (r : Result T E) (F : Files) (most : ℕ) (is : List Interest) (d : Interest) (new mid old : List Pick) → 0 < most → 1 ≤ length is → is_due F (get_or is 0 d) ≡ true → mid ≡ old ++ pick_of (get_or is 0 d) ∷ [] →
    OnOk r (new ≡ mid ++ first_due F (most - 1) (take (length is - 1) (drop 1 is))) → OnOk r (new ≡ old ++ first_due F most is)
behind_due r F most is d new mid old m n h e o =
    let f = next_due F most is d m n h in
    on_ok r _ _ (λ (g : new ≡ mid ++ first_due F (most - 1) (take (length is - 1) (drop 1 is))). rw (f, g, e, append_assoc) refl) o

distinct : (F : Files) (most : ℕ) (is : List Interest) → are_apart is ≡ true → are_distinct (first_due F most is) ≡ true
distinct F most is h =
    differ_taken is_same most (due_picks F is) (differ_mapped pick_of is_same has_name_of same_name (filter (is_due F) is) ∙ differ_filtered (is_due F) has_name_of is h)

-- a name that no interest has is not picked
not_picked : (F : Files) (i : Interest) (is : List Interest) → list_any (has_name_of i) is ≡ false → list_any (is_same (pick_of i)) (due_picks F is) ≡ false
not_picked F i is h =
    any_mapped pick_of (is_same (pick_of i)) (has_name_of i) (same_name i) (filter (is_due F) is) ∙ none_filtered (is_due F) (has_name_of i) is h

-- picks of other interests are due among one more
still_due : (F : Files) (i : Interest) (is : List Interest) (picks : List Pick) → list_any (is_same (pick_of i)) picks ≡ false → are_due F is picks ≡ true → are_due F (i ∷ is) picks ≡ true
still_due F i is [] h k = refl
still_due F i is (p ∷ ps) h k =
    let a = still_due F i is ps in
    grind arith

named_first : (i : Interest) (is : List Interest) → named (i ∷ is) (pick_of i) ≡ Some i
named_first i is = grind (arith, nat_tests)

all_due : (F : Files) (is : List Interest) → are_apart is ≡ true → are_due F is (due_picks F is) ≡ true
all_due F [] h = refl
all_due F (i ∷ is) h =
    let a = all_due F is in
    let b = not_picked F i is in
    let c = still_due F i is (due_picks F is) in
    let d = named_first i is in
    grind arith

due : (F : Files) (most : ℕ) (is : List Interest) → are_apart is ≡ true → are_due F is (first_due F most is) ≡ true
due F most is h = all_taken (λ p. is_due_interest F (named is p)) most (due_picks F is) (all_due F is h)

some_due : (F : Files) (is : List Interest) → list_any (is_due F) is ≡ true → 0 < length (due_picks F is)
some_due F [] k = cc
some_due F (i ∷ is) k = let a = some_due F is in grind (arith, nat_tests)

some : (F : Files) (most : ℕ) (is : List Interest) → 0 < most → list_any (is_due F) is ≡ true → 0 < length (first_due F most is)
some F most is h k = let a = some_due F is k in let b = length-take most (due_picks F is) in grind arith

few : (F : Files) (most : ℕ) (is : List Interest) → length (first_due F most is) ≤ most
few F most is = let b = length-take most (due_picks F is) in grind arith

-- one more pick leaves no more
left_less : (F : Files) (p : Pick) (picks : List Pick) (is : List Interest) → list_any (is_left F picks) is ≡ false → list_any (is_left F (p ∷ picks)) is ≡ false
left_less F p picks [] h = refl
left_less F p picks (i ∷ is) h =
    let a = left_less F p picks is in
    grind arith

picked_first : (i : Interest) (picks : List Pick) → is_picked (pick_of i ∷ picks) i ≡ true
picked_first i picks = grind (arith, nat_tests)

-- all due interests are picked among their picks
all_picked : (F : Files) (is : List Interest) → list_any (is_left F (due_picks F is)) is ≡ false
all_picked F [] = refl
all_picked F (i ∷ is) =
    let a = all_picked F is in
    let c = left_less F (pick_of i) (due_picks F is) is in
    let d = picked_first i (due_picks F is) in
    grind (arith, nat_tests)

none_left : (F : Files) (most : ℕ) (is : List Interest) → length (first_due F most is) < most → list_any (is_left F (first_due F most is)) is ≡ false
none_left F most is h =
    let b = length-take most (due_picks F is) in
    let c : length (due_picks F is) ≤ most = grind arith in
    let e : first_due F most is ≡ due_picks F is = take_all most (due_picks F is) c in
    rw e (all_picked F is)

answers : (F : Files) (most : ℕ) (is : List Interest) → are_apart is ≡ true → 0 < most → list_any (is_due F) is ≡ true → is_answer F is most (first_due F most is) ≡ true
answers F most is h m k =
    let a = distinct F most is h in
    let b = due F most is h in
    let c = few F most is in
    let d = some F most is m k in
    let e = none_left F most is in
    grind (arith, nat_tests)

-- ---- the call that holds an epoll with something to report has a Move, with these picks

interests_move : (F : Files) (c : LxCall) (file n : ℕ) (o : Option (List Interest)) → are_apart (interests_in o) ≡ true → 0 < most_of c → list_any (is_due F) (interests_in o) ≡ true → is_some (bind o (reports_if F c (first_due F (most_of c) (interests_in o)) file n)) ≡ true
interests_move F c file n None h m k = cc
interests_move F c file n (Some is) h m k =
    let a = answers F (most_of c) is h m k in
    grind arith

epoll_moves : (F : Files) (c : LxCall) (file : ℕ) (e : Option ℕ) → are_apart (interests_of F e) ≡ true → 0 < most_of c → list_any (is_due F) (interests_of F e) ≡ true → is_some (bind e (reports_of F c (first_due F (most_of c) (interests_of F e)) file)) ≡ true
epoll_moves F c file None h m k = cc
epoll_moves F c file (Some n) h m k = interests_move F c file n (at_place F.epolls n) h m k

abbrev epoll_in : Files → Option ℕ → Option ℕ
epoll_in F held = bind held (λ file. bind (at_place F.files file) (λ f. epoll_number f.kind))

held_moves : (F : Files) (c : LxCall) (held : Option ℕ) → are_apart (interests_of F (epoll_in F held)) ≡ true → 0 < most_of c → list_any (is_due F) (interests_of F (epoll_in F held)) ≡ true → is_some (bind held (λ file. bind (epoll_in F held) (reports_of F c (first_due F (most_of c) (interests_of F (epoll_in F held))) file))) ≡ true
held_moves F c None h m k = cc
held_moves F c (Some file) h m k = epoll_moves F c file (bind (at_place F.files file) (λ f. epoll_number f.kind)) h m k

least : (low : ℕ) → 0 < low → 0 < min low 4096
least low h = omega arith

pub moves : (F : Files) (c : LxCall) → are_apart (interests_of F (held_epoll F c)) ≡ true → 0 < low_argument c 2 → epoll_can_move F c ≡ true → is_some (epoll_moved F c (first_picks F c)) ≡ true
moves F c h m k = held_moves F c c.held h (least (low_argument c 2) m) k
