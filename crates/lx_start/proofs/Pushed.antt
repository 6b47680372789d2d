-- One more text, or one more word, behind the others.
use Rattle.std.proofs.Common.{◌≡◌, ℕ, ◌+◌, ◌<◌, ◌≤◌, List, [], ◌∷◌, ◌++◌, length, map, take, drop, get_or, arith, refl, sym, ap, ◌∙◌, append_assoc}
use Rattle.std.proofs.lemmas.List.{length-append, take_more, take-append-drop, map-append, append-nil}
use Rattle.places.specs.Places.{bytes_of}
use Rattle.lx_machine.specs.Stack.{argument_places, ended_texts, stack_words}

ended_append : (xs ys : List (List ℕ)) → ended_texts (xs ++ ys) ≡ ended_texts xs ++ ended_texts ys
ended_append [] ys = refl
ended_append (x ∷ xs) ys = ap (λ (rest : List ℕ). (x ++ 0 ∷ []) ++ rest) (ended_append xs ys) ∙ sym (append_assoc (x ++ 0 ∷ []) (ended_texts xs) (ended_texts ys))

places_append : (at : ℕ) (xs ys : List (List ℕ)) → argument_places at (xs ++ ys) ≡ argument_places at xs ++ argument_places (at + length (ended_texts xs)) ys
places_append at [] ys = ap (λ (a : ℕ). argument_places a ys) (omega arith)
places_append at (x ∷ xs) ys =
    let past : at + length x + 1 + length (ended_texts xs) ≡ at + length (ended_texts (x ∷ xs)) = omega (arith, length-append (x ++ 0 ∷ []) (ended_texts xs), length-append x (0 ∷ [])) in
    ap (λ (rest : List ℕ). at ∷ rest) (places_append (at + length x + 1) xs ys ∙ ap (λ (a : ℕ). argument_places (at + length x + 1) xs ++ argument_places a ys) past)

words_append : (xs ys : List ℕ) → stack_words (xs ++ ys) ≡ stack_words xs ++ stack_words ys
words_append [] ys = refl
words_append (x ∷ xs) ys = ap (λ (rest : List ℕ). bytes_of x 8 ++ rest) (words_append xs ys) ∙ sym (append_assoc (bytes_of x 8) (stack_words xs) (stack_words ys))

-- the first i texts and the next
next_text : {T : Type 0} (f : T → List ℕ) (texts : List T) (i : ℕ) (t : T) → i < length texts → get_or texts i t ≡ t → map f (take (i + 1) texts) ≡ map f (take i texts) ++ f t ∷ []
next_text {T} f texts i t lt is =
    ap (map f) (take_more texts i t lt ∙ ap (λ (one : T). take i texts ++ one ∷ []) is) ∙ map-append f (take i texts) (t ∷ [])

pub pushed_text : {T : Type 0} (f : T → List ℕ) (texts : List T) (i : ℕ) (t : T) → i < length texts → get_or texts i t ≡ t → ended_texts (map f (take (i + 1) texts)) ≡ ended_texts (map f (take i texts)) ++ (f t ++ 0 ∷ [])
pushed_text f texts i t lt is =
    ap ended_texts (next_text f texts i t lt is)
    ∙ ended_append (map f (take i texts)) (f t ∷ [])
    ∙ ap (λ (last : List ℕ). ended_texts (map f (take i texts)) ++ last) (append-nil (f t ++ 0 ∷ []))

pub pushed_place : {T : Type 0} (f : T → List ℕ) (at : ℕ) (texts : List T) (i : ℕ) (t : T) → i < length texts → get_or texts i t ≡ t → argument_places at (map f (take (i + 1) texts)) ≡ argument_places at (map f (take i texts)) ++ (at + length (ended_texts (map f (take i texts)))) ∷ []
pushed_place f at texts i t lt is = ap (argument_places at) (next_text f texts i t lt is) ∙ places_append at (map f (take i texts)) (f t ∷ [])

pub pushed_word : (ns : List ℕ) (i : ℕ) → i < length ns → stack_words (take (i + 1) ns) ≡ stack_words (take i ns) ++ bytes_of (get_or ns i 0) 8
pushed_word ns i lt =
    ap stack_words (take_more ns i 0 lt)
    ∙ words_append (take i ns) (get_or ns i 0 ∷ [])
    ∙ ap (λ (last : List ℕ). stack_words (take i ns) ++ last) (append-nil (bytes_of (get_or ns i 0) 8))

pub pushed_length : {T : Type 0} (f : T → List ℕ) (texts : List T) (i : ℕ) (t : T) → i < length texts → get_or texts i t ≡ t → length (ended_texts (map f (take (i + 1) texts))) ≡ length (ended_texts (map f (take i texts))) + (length (f t) + 1)
pushed_length f texts i t lt is =
    ap length (pushed_text f texts i t lt is)
    ∙ omega (arith, length-append (ended_texts (map f (take i texts))) (f t ++ 0 ∷ []), length-append (f t) (0 ∷ []))

-- the first texts take no more than all
pub first_length : {T : Type 0} (f : T → List ℕ) (texts : List T) (n : ℕ) → length (ended_texts (map f (take n texts))) ≤ length (ended_texts (map f texts))
first_length f texts n =
    let parts : map f texts ≡ map f (take n texts) ++ map f (drop n texts) = ap (map f) (sym (take-append-drop n texts)) ∙ map-append f (take n texts) (drop n texts) in
    let long = ap (λ (all : List (List ℕ)). length (ended_texts all)) parts ∙ ap length (ended_append (map f (take n texts)) (map f (drop n texts))) in
    omega (arith, long, length-append (ended_texts (map f (take n texts))) (ended_texts (map f (drop n texts))))

-- what is pushed behind what was there before
pub behind : (old now new had part same whole : List ℕ) → now ≡ old ++ had → new ≡ now ++ part → part ≡ same → whole ≡ had ++ same → new ≡ old ++ whole
behind old now new had part same whole was pushed is more =
    pushed ∙ (λ i. was i ++ is i) ∙ append_assoc old had same ∙ ap (λ (rest : List ℕ). old ++ rest) (sym more)
