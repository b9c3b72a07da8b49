-- Two tables of rules that agree on the phrases one level down of some forms read and spell the same by these forms.
use Rattle.std.proofs.Common.{◌≡◌, ℕ, zero, suc, Bool, true, false, ◌&&◌, List, [], ◌∷◌, length, Option, Some, None, Ok, Err, refl, ap, sym, ◌∙◌, subst, inl, inr}
use Rattle.cv_syntax_trees.proofs.lists.Tests.{and_first, and_second}
use Rattle.cv_syntax_trees.specs.Tree.{Tree}
use Rattle.cv_parse_notation.specs.declared.sign.Sign.{Sign}
use Rattle.cv_parse_notation.specs.Form.{Form, sign, script_word, word, number, nought, find_word, unnamed, other, note, both, may, many, either, made, level, deeper}
use Rattle.cv_parse_notation.specs.Reads.{Found, Read, Reader, joined, mapped, no_level, no_syntax, nothing, one_more, pick, read_many, read_sort, reads, too_deep, ◌>>=◌}
use Rattle.cv_parse_notation.specs.Spells.{Each, IsSort, Kind, Perhaps, Relation, Spells, Use, next_is, no_sort, starts}

-- the phrases one level down of a form pass a test
unfoldable pub sorts_pass : {R σ A : Type 0} → (σ → Bool) → Form R σ A → Bool
sorts_pass p (both f g) = sorts_pass p f && sorts_pass p g
sorts_pass p (may near f) = sorts_pass p f
sorts_pass p (many near f) = sorts_pass p f
sorts_pass p (either f g) = sorts_pass p f && sorts_pass p g
sorts_pass p (made v f) = sorts_pass p f
sorts_pass p (level f) = sorts_pass p f
sorts_pass p (deeper s) = p s
sorts_pass p _ = true

-- reading

bind_same : {R A B : Type 0} (r r' : Read R A) (f g : Found R A → Read R B) → r ≡ r' → ((x : Found R A) → f x ≡ g x) → (r >>= f) ≡ (r' >>= g)
bind_same (Ok x) r' f g e h = h x ∙ ap (λ z. z >>= g) e
bind_same (Err x) r' f g e h = ap (λ z. z >>= g) e

pick_same : {R A : Type 0} (b : Bool) (p p' q q' : Reader R A) (ts : List Sign) → p ts ≡ p' ts → q ts ≡ q' ts → pick b p q ts ≡ pick b p' q' ts
pick_same true p p' q q' ts e f = e
pick_same false p p' q q' ts e f = f

many_same : {R A : Type 0} (begins : Kind → Bool) (p q : Reader R A) → ((ts : List Sign) → p ts ≡ q ts) → (n : ℕ) (ts : List Sign) → read_many begins p n ts ≡ read_many begins q n ts
many_same begins p q e zero ts = refl
many_same begins p q e (suc n) ts =
    pick_same (next_is begins ts) (λ us. p us >>= λ x. read_many begins p n x.rest >>= one_more x) (λ us. q us >>= λ x. read_many begins q n x.rest >>= one_more x) (nothing []) (nothing []) ts
    (bind_same (p ts) (q ts) (λ x. read_many begins p n x.rest >>= one_more x) (λ x. read_many begins q n x.rest >>= one_more x) (e ts) (λ x. ap (λ r. r >>= one_more x) (many_same begins p q e n x.rest)))
    refl

module _ {R σ : Type 0} (h : σ → Kind → Bool) (p : σ → Bool) (room : Bool) (low low' : σ → Reader R Tree) (same : (s : σ) → p s ≡ true → (ts : List Sign) → low s ts ≡ low' s ts) where
  pub reads_same : {A : Type 0} (f : Form R σ A) → sorts_pass p f ≡ true → (ts : List Sign) → reads h room low f ts ≡ reads h room low' f ts
  unfolding sorts_pass
  reads_same (sign m) c ts = refl
  reads_same (script_word w) c ts = refl
  reads_same (word r) c ts = refl
  reads_same number c ts = refl
  reads_same nought c ts = refl
  reads_same find_word c ts = refl
  reads_same (unnamed r) c ts = refl
  reads_same other c ts = refl
  reads_same (note r) c ts = refl
  reads_same (both f g) c ts = bind_same (reads h room low f ts) (reads h room low' f ts) (λ x. reads h room low g x.rest >>= joined x) (λ x. reads h room low' g x.rest >>= joined x) (reads_same f (and_first (sorts_pass p f) (sorts_pass p g) c) ts) (λ x. ap (λ r. r >>= joined x) (reads_same g (and_second (sorts_pass p f) (sorts_pass p g) c) x.rest))
  reads_same (may near f) c ts = pick_same (next_is (starts h f) ts) (λ us. reads h room low f us >>= mapped Some) (λ us. reads h room low' f us >>= mapped Some) (nothing None) (nothing None) ts (ap (λ r. r >>= mapped Some) (reads_same f c ts)) refl
  reads_same (many near f) c ts = many_same (starts h f) (reads h room low f) (reads h room low' f) (reads_same f c) (length ts) ts
  reads_same (either f g) c ts = pick_same (next_is (starts h f) ts) (reads h room low f) (reads h room low' f) (reads h room low g) (reads h room low' g) ts (reads_same f (and_first (sorts_pass p f) (sorts_pass p g) c) ts) (reads_same g (and_second (sorts_pass p f) (sorts_pass p g) c) ts)
  reads_same (made v f) c ts = ap (λ r. r >>= mapped v) (reads_same f c ts)
  reads_same (level f) c ts = pick_same room (reads h room low f) (reads h room low' f) (pick (next_is (starts h f) ts) no_level no_syntax) (pick (next_is (starts h f) ts) no_level no_syntax) ts (reads_same f c ts) refl
  reads_same (deeper s) c ts = same s c ts

-- spelling

perhaps_on : {R A : Type 0} (P Q : Relation R A) (near : Bool) (k : Kind → Bool) → ((ts : List Sign) (a : A) (us : List (Use R)) (rest : List Sign) → P ts a us rest → Q ts a us rest) → (ts : List Sign) (o : Option A) (us : List (Use R)) (rest : List Sign) → Perhaps P near k ts o us rest → Perhaps Q near k ts o us rest
perhaps_on P Q near k up ts None us rest d = d
perhaps_on P Q near k up ts (Some a) us rest d = up ts a us rest d

each_on : {R A : Type 0} (P Q : Relation R A) (near : Bool) (k : Kind → Bool) → ((ts : List Sign) (a : A) (us : List (Use R)) (rest : List Sign) → P ts a us rest → Q ts a us rest) → (ts : List Sign) (l : List A) (us : List (Use R)) (rest : List Sign) → Each P near k ts l us rest → Each Q near k ts l us rest
each_on P Q near k up ts [] us rest d = d
each_on P Q near k up ts (a ∷ l) us rest d = record { mid = d.mid; front = d.front; back = d.back; first = up ts a d.front d.mid d.first; second = each_on P Q near k up d.mid l d.back rest d.second; uses = d.uses }

module _ {R σ : Type 0} (h : σ → Kind → Bool) (p : σ → Bool) (room : Bool) (P Q : σ → Relation R Tree) (up : (s : σ) → p s ≡ true → (ts : List Sign) (t : Tree) (us : List (Use R)) (rest : List Sign) → P s ts t us rest → Q s ts t us rest) where
  pub spells_same : {A : Type 0} (f : Form R σ A) → sorts_pass p f ≡ true → (ts : List Sign) (a : A) (us : List (Use R)) (rest : List Sign) → Spells h room P f ts a us rest → Spells h room Q f ts a us rest
  unfolding sorts_pass
  spells_same (sign m) c ts a us rest d = d
  spells_same (script_word w) c ts a us rest d = d
  spells_same (word r) c ts a us rest d = d
  spells_same number c ts a us rest d = d
  spells_same nought c ts a us rest d = d
  spells_same find_word c ts a us rest d = d
  spells_same (unnamed r) c ts a us rest d = d
  spells_same other c ts a us rest d = d
  spells_same (note r) c ts a us rest d = d
  spells_same (both f g) c ts a us rest d = record { mid = d.mid; front = d.front; back = d.back; first = spells_same f (and_first (sorts_pass p f) (sorts_pass p g) c) ts a.0 d.front d.mid d.first; second = spells_same g (and_second (sorts_pass p f) (sorts_pass p g) c) d.mid a.1 d.back rest d.second; uses = d.uses }
  spells_same (may near f) c ts a us rest d = perhaps_on (Spells h room P f) (Spells h room Q f) near (starts h f) (spells_same f c) ts a us rest d
  spells_same (many near f) c ts a us rest d = each_on (Spells h room P f) (Spells h room Q f) near (starts h f) (spells_same f c) ts a us rest d
  spells_same (either f g) c ts a us rest d = elim d as (λ _. Spells h room Q (either f g) ts a us rest) [ inl e ↦ inl (spells_same f (and_first (sorts_pass p f) (sorts_pass p g) c) ts a us rest e) | inr e ↦ inr (e.0, spells_same g (and_second (sorts_pass p f) (sorts_pass p g) c) ts a us rest e.1) ]
  spells_same (made v f) c ts a us rest d = (d.0, spells_same f c ts d.0 us rest d.1, d.2)
  spells_same (level f) c ts a us rest d = (d.0, spells_same f c ts a us rest d.1)
  spells_same (deeper s) c ts a us rest d = up s c ts a us rest d

-- two tables that agree on the sorts that pass, whose rules ask for such sorts alone
module _ {R σ : Type 0} (h : σ → Kind → Bool) (p : σ → Bool) (rule rule' : σ → Form R σ Tree) (same : (s : σ) → p s ≡ true → rule s ≡ rule' s) (closed : (s : σ) → p s ≡ true → sorts_pass p (rule s) ≡ true) where
  pub sorts_same : (n : ℕ) (s : σ) → p s ≡ true → (ts : List Sign) → read_sort h rule n s ts ≡ read_sort h rule' n s ts
  unfolding read_sort
  sorts_same zero s e ts = ap (λ f. reads h false (too_deep h) f ts) (same s e)
  sorts_same (suc n) s e ts = reads_same h p true (read_sort h rule n) (read_sort h rule' n) (sorts_same n) (rule s) (closed s e) ts ∙ ap (λ f. reads h true (read_sort h rule' n) f ts) (same s e)

  pub sort_spelled : (n : ℕ) (s : σ) → p s ≡ true → (ts : List Sign) (t : Tree) (us : List (Use R)) (rest : List Sign) → IsSort h rule n s ts t us rest → IsSort h rule' n s ts t us rest
  unfolding IsSort
  sort_spelled zero s e ts t us rest d = subst (λ f. Spells h false no_sort f ts t us rest) (same s e) d
  sort_spelled (suc n) s e ts t us rest d = subst (λ f. Spells h true (IsSort h rule' n) f ts t us rest) (same s e) (spells_same h p true (IsSort h rule n) (IsSort h rule' n) (sort_spelled n) (rule s) (closed s e) ts t us rest d)

  pub sort_spelled_back : (n : ℕ) (s : σ) → p s ≡ true → (ts : List Sign) (t : Tree) (us : List (Use R)) (rest : List Sign) → IsSort h rule' n s ts t us rest → IsSort h rule n s ts t us rest
  unfolding IsSort
  sort_spelled_back zero s e ts t us rest d = subst (λ f. Spells h false no_sort f ts t us rest) (sym (same s e)) d
  sort_spelled_back (suc n) s e ts t us rest d = spells_same h p true (IsSort h rule' n) (IsSort h rule n) (sort_spelled_back n) (rule s) (closed s e) ts t us rest (subst (λ f. Spells h true (IsSort h rule' n) f ts t us rest) (sym (same s e)) d)
