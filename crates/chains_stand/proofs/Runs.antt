-- What busy threads owe reads and changes their own chains alone.
use Rattle.std.proofs.Common.{◌≡◌, ◌≢◌, ℕ, ◌+◌, List, [], ◌∷◌, ◌++◌, refl, sym, ap, ◌∙◌, arith, ◌⊎◌, inl, inr}
use Rattle.umtx_queue.specs.declared.waiter.Waiter.{Waiter}
use Rattle.umtx_queue.specs.Chains.{ChainState}
use Rattle.chains_stand.specs.Chains.{at_chain}
use Rattle.chains_stand.specs.Owed.{carry_after, chain_of_op, counted, done, EachAt, line_at, Op, run, run_op, Work}
use Rattle.chains_stand.proofs.Lists.{same_or_not}
use Rattle.chains_stand.proofs.Numbers.{at_other, at_same}

-- two works agree on some chains
pub record Agree (P : ℕ → Type 0) (w v : Work) : Type 0 where
  pub chains : (c : ℕ) → P c → w.chains c ≡ v.chains c
  pub carry : w.carry ≡ v.carry
  pub answer : w.answer ≡ v.answer

at_local : (d : ℕ) (f g : ChainState → ChainState) (V W : ℕ → ChainState) (c : ℕ) → V c ≡ W c → (c ≡ d → f (V c) ≡ g (W c)) → at_chain d f V c ≡ at_chain d g W c
at_local d f g V W c e h = by (same_or_not d c)
  where
    by : (c ≡ d) ⊎ (c ≢ d) → at_chain d f V c ≡ at_chain d g W c
    by (inl i) = at_same d f V c i ∙ h i ∙ sym (at_same d g W c i)
    by (inr ne) = at_other d f V c ne ∙ e ∙ sym (at_other d g W c ne)

pub op_local : (P : ℕ → Type 0) (o : Op) (w v : Work) → P (chain_of_op o) → Agree P w v → Agree P (run_op o w) (run_op o v)
op_local P o w v h e = record {
  chains = λ c p.
      at_local (chain_of_op o) (done o w.carry) (done o v.carry) w.chains v.chains c (e.chains c p)
      (λ i. ap (done o w.carry) (e.chains c p) ∙ ap (λ (ws : List Waiter). done o ws (v.chains c)) e.carry);
  carry = ap (λ (ws : List Waiter). carry_after o ws (line_at o w)) e.carry ∙ ap (λ (ch : ChainState). carry_after o v.carry ch.line) (e.chains (chain_of_op o) h);
  answer = ap (λ (k : ℕ). k + counted o (line_at o w)) e.answer ∙ ap (λ (ch : ChainState). v.answer + counted o ch.line) (e.chains (chain_of_op o) h);
}

pub run_local : (P : ℕ → Type 0) (os : List Op) (w v : Work) → EachAt P os → Agree P w v → Agree P (run os w) (run os v)
run_local P [] w v h e = e
run_local P (o ∷ os) w v h e = run_local P os (run_op o w) (run_op o v) h.1 (op_local P o w v h.0 e)

op_apart : (o : Op) (w : Work) (c : ℕ) → c ≢ chain_of_op o → (run_op o w).chains c ≡ w.chains c
op_apart o w c ne = at_other (chain_of_op o) (done o w.carry) w.chains c ne

pub run_apart : (os : List Op) (w : Work) (c : ℕ) → EachAt (λ d. c ≢ d) os → (run os w).chains c ≡ w.chains c
run_apart [] w c h = refl
run_apart (o ∷ os) w c h = run_apart os (run_op o w) c h.1 ∙ op_apart o w c h.0

pub run-append : (os ps : List Op) (w : Work) → run (os ++ ps) w ≡ run ps (run os w)
run-append [] ps w = refl
run-append (o ∷ os) ps w = run-append os ps (run_op o w)

pub each_weaker : (P Q : ℕ → Type 0) (os : List Op) → ((c : ℕ) → P c → Q c) → EachAt P os → EachAt Q os
each_weaker P Q [] f h = h
each_weaker P Q (o ∷ os) f h = (f (chain_of_op o) h.0, each_weaker P Q os f h.1)

-- ---- what has been counted changes the answer alone

-- the chains and the carry are the same
pub record SameWork (w v : Work) : Type 0 where
  pub chains : (c : ℕ) → w.chains c ≡ v.chains c
  pub carry : w.carry ≡ v.carry

-- as much is counted from there on
abbrev pub CountsAlike : Work → Work → Work → Work → Type 0
CountsAlike w v w' v' = (n m : ℕ) → w.answer + n ≡ v.answer + m → w'.answer + n ≡ v'.answer + m

op_answer : (o : Op) (w v : Work) → SameWork w v → SameWork (run_op o w) (run_op o v) × CountsAlike w v (run_op o w) (run_op o v)
op_answer o w v e =
    let a = op_local (λ d. Unit {0}) o (record w { answer = 0 }) (record v { answer = 0 }) tt (record { chains = λ c p. e.chains c; carry = e.carry; answer = refl }) in
    (record { chains = λ c. a.chains c tt; carry = a.carry }, λ n m h. (let g : counted o (line_at o w) ≡ counted o (line_at o v) = ap (λ (ch : ChainState). counted o ch.line) (e.chains (chain_of_op o)) in omega arith))

pub run_answer : (os : List Op) (w v : Work) → SameWork w v → SameWork (run os w) (run os v) × CountsAlike w v (run os w) (run os v)
run_answer [] w v e = (e, λ n m h. h)
run_answer (o ∷ os) w v e =
    let a = op_answer o w v e in
    let b = run_answer os (run_op o w) (run_op o v) a.0 in
    (b.0, λ n m h. b.1 n m (a.1 n m h))
