-- What is learned on the way into a second child.
use Rattle.std.proofs.Common.{◌≡◌, ℕ, Bool, true, false, cond, List, [], ◌∷◌, ◌++◌, length, take, refl, ap, sym, ◌∙◌, subst, append-nil, append_assoc, Some, None, Result, Ok, Err, OnOk}
use Rattle.std.proofs.lemmas.Result.{IfOk-weaker}
use Rattle.cv_pool.specs.KindTree.{KindTree}
use Rattle.cv_syntax_trees.specs.declared.head.Head.{Head}
use Rattle.cv_syntax_trees.specs.declared.head.Head.TheVariants.{Repl, In, New, Let, Find, Branch, Cons, Key, Call}
use Rattle.cv_syntax_trees.specs.Tree.{Tree}
use Rattle.cv_scope.specs.heads.Heads.{variable_of}
use Rattle.cv_scope_rules.specs.declared.position.Position.{Position}
use Rattle.cv_scope.specs.declared.state.State.{State}
use Rattle.cv_scope_rules.specs.Context.{replications_below}
use Rattle.cv_scope.specs.Held.{AreListed, DefinesOnly, Extends, IsEntered, ListsOnly, cells_held, state_held}
use Rattle.cv_scope.specs.Seen.{defined_by, listed_by, passed_by, with_definitions}
use Rattle.cv_scope.specs.tables.Definitions.{is_defined, with_definition}

pub on_ok : {X E : Type 0} (r : Result X E) (A B : Type 0) → (A → B) → OnOk r A → OnOk r B
on_ok r A B f m = IfOk-weaker r (λ x. A) (λ x. B) (λ x y. f y) m

pub both_ok : {X E : Type 0} (r : Result X E) (A B C : Type 0) → (A → B → C) → OnOk r A → OnOk r B → OnOk r C
both_ok (Ok x) A B C f m n = f m n
both_ok (Err x) A B C f m n = tt

pub front_append : {A : Type 0} (xs ys : List A) → take (length xs) (xs ++ ys) ≡ xs
front_append [] ys = refl
front_append (x ∷ xs) ys = ap (λ l. x ∷ l) (front_append xs ys)

pub front_all : {A : Type 0} (xs : List A) → take (length xs) xs ≡ xs
front_all [] = refl
front_all (x ∷ xs) = ap (λ l. x ∷ l) (front_all xs)

pub front_same : {A : Type 0} (xs ys : List A) → ys ≡ xs → take (length xs) ys ≡ xs
front_same xs ys e = ap (take (length xs)) e ∙ front_all xs

pub below_front : (h : Head) (rs : List (ℕ × ℕ)) → take (length rs) (replications_below h rs) ≡ rs
below_front (Repl i n) rs = front_append rs ((i, n) ∷ [])
below_front h rs = front_all rs

-- definitions are added at the end
one_added : (ds : List (ℕ × ℕ)) (d : ℕ × ℕ) → (l : List (ℕ × ℕ)) × (with_definition ds d ≡ ds ++ l)
one_added ds d = go (is_defined ds d)
  where
    go : (b : Bool) → (l : List (ℕ × ℕ)) × (cond b ds (ds ++ d ∷ []) ≡ ds ++ l)
    go true = ([], sym (append-nil ds))
    go false = (d ∷ [], refl)

all_added : (ds : List (ℕ × ℕ)) (k : ℕ) (xs : List ℕ) → (l : List (ℕ × ℕ)) × (with_definitions ds k xs ≡ ds ++ l)
all_added ds k [] = ([], sym (append-nil ds))
all_added ds k (x ∷ xs) =
    let o = one_added ds (x, k) in
    let m = all_added (with_definition ds (x, k)) k xs in
    (o.0 ++ m.0, m.1 ∙ (ap (λ l. l ++ m.0) o.1 ∙ append_assoc ds o.0 m.0))

pub definitions_front : (ds : List (ℕ × ℕ)) (k : ℕ) (xs : List ℕ) → take (length ds) (with_definitions ds k xs) ≡ ds
definitions_front ds k xs = let o = all_added ds k xs in ap (take (length ds)) o.1 ∙ front_append ds o.0

module _ (trees : List KindTree) (s r : State) (w : Position) (h : Head) (a : Tree) (p q : ℕ) where
  pub entered :
      r.replications.items ≡ replications_below h s.replications.items
      → r.defined ≡ with_definitions s.defined (length s.replications.items) (defined_by h a)
      → cells_held trees r.listed ≡ cells_held trees s.listed ++ listed_by w h a
      → take (length s.listed) r.listed ≡ s.listed
      → r.passed ≡ s.passed ++ passed_by w h p q
      → r.last ≡ s.last → AreListed trees r.listed → IsEntered trees s r w h a p q
  entered er ed el fl ep eq live = record {
    held = λ i. record { replications = er i; defined = ed i; listed = el i; passed = ep i; last = Rattle.cv_scope.specs.Held.last_held trees (eq i) };
    front = record {
      replications = ap (take (length s.replications.items)) er ∙ below_front h s.replications.items;
      defined = ap (take (length s.defined)) ed ∙ definitions_front s.defined (length s.replications.items) (defined_by h a);
      listed = fl;
      passed = ap (take (length s.passed)) ep ∙ front_append s.passed (passed_by w h p q);
    };
    live = live;
    last = eq;
  }

  pub defines_entered : AreListed trees s.listed → replications_below h s.replications.items ≡ s.replications.items → listed_by w h a ≡ [] → passed_by w h p q ≡ [] → DefinesOnly s r (with_definitions s.defined (length s.replications.items) (defined_by h a)) → IsEntered trees s r w h a p q
  defines_entered live er el ep d =
      entered (d.replications ∙ sym er) d.defined
      (ap (cells_held trees) d.listed ∙ (sym (append-nil (cells_held trees s.listed)) ∙ ap (λ l. cells_held trees s.listed ++ l) (sym el)))
      (front_same s.listed r.listed d.listed)
      (d.passed ∙ (sym (append-nil s.passed) ∙ ap (λ l. s.passed ++ l) (sym ep)))
      d.last (subst (AreListed trees) (sym d.listed) live)

  pub lists_entered : replications_below h s.replications.items ≡ s.replications.items → defined_by h a ≡ [] → passed_by w h p q ≡ [] → ListsOnly trees s r (listed_by w h a) → IsEntered trees s r w h a p q
  lists_entered er ed ep d =
      entered (d.replications ∙ sym er) (d.defined ∙ ap (with_definitions s.defined (length s.replications.items)) (sym ed)) d.listed d.front
      (d.passed ∙ (sym (append-nil s.passed) ∙ ap (λ l. s.passed ++ l) (sym ep)))
      d.last d.live

  pub passes_entered : AreListed trees s.listed → replications_below h s.replications.items ≡ s.replications.items → defined_by h a ≡ [] → listed_by w h a ≡ [] → passed_by w h p q ≡ (p, q) ∷ [] → r ≡ record s { passed = r.passed } → r.passed ≡ s.passed ++ (p, q) ∷ [] → IsEntered trees s r w h a p q
  passes_entered live er ed el ep e m =
      let same = ap (λ (z : State). z.listed) e in
      entered (ap (λ (z : State). z.replications.items) e ∙ sym er) (ap (λ (z : State). z.defined) e ∙ ap (with_definitions s.defined (length s.replications.items)) (sym ed))
      (ap (cells_held trees) same ∙ (sym (append-nil (cells_held trees s.listed)) ∙ ap (λ l. cells_held trees s.listed ++ l) (sym el)))
      (front_same s.listed r.listed same)
      (m ∙ ap (λ l. s.passed ++ l) (sym ep))
      (ap (λ (z : State). z.last) e) (subst (AreListed trees) (sym same) live)

  pub replicates_entered : (i n : ℕ) → h ≡ Repl i n → AreListed trees s.listed → r ≡ record s { replications = r.replications } → r.replications.items ≡ s.replications.items ++ (i, n) ∷ [] → IsEntered trees s r w h a p q
  replicates_entered i n eh live e m =
      let same = ap (λ (z : State). z.listed) e in
      entered (m ∙ ap (λ k. replications_below k s.replications.items) (sym eh))
      (ap (λ (z : State). z.defined) e ∙ ap (λ k. with_definitions s.defined (length s.replications.items) (defined_by k a)) (sym eh))
      (ap (cells_held trees) same ∙ (sym (append-nil (cells_held trees s.listed)) ∙ ap (λ k. cells_held trees s.listed ++ listed_by w k a) (sym eh)))
      (front_same s.listed r.listed same)
      (ap (λ (z : State). z.passed) e ∙ (sym (append-nil s.passed) ∙ ap (λ k. s.passed ++ passed_by w k p q) (sym eh)))
      (ap (λ (z : State). z.last) e) (subst (AreListed trees) (sym same) live)

-- a head that defines a variable by itself makes its cell known, and nothing else
abbrev pub DefinesOne : List (ℕ × ℕ) → Position → Head → Tree → ℕ → ℕ → ℕ → Type 0
DefinesOne rs w h a p q x = (replications_below h rs ≡ rs) × (defined_by h a ≡ x ∷ []) × (listed_by w h a ≡ []) × (passed_by w h p q ≡ [])

pub defining_head : (rs : List (ℕ × ℕ)) (w : Position) (h : Head) (a : Tree) (p q x : ℕ) → variable_of h ≡ Some x → DefinesOne rs w h a p q x
defining_head rs w (New y T) a p q x e = (refl, cc, refl, refl)
defining_head rs w (Let y T) a p q x e = (refl, cc, refl, refl)
defining_head rs w (Key y) a p q x e = (refl, cc, refl, refl)
defining_head rs w (Call y l) a p q x e = (refl, cc, refl, refl)
defining_head rs w h a p q x e = absurd (cc)

pub variable_entered : (trees : List KindTree) (s r : State) (w : Position) (h : Head) (a : Tree) (p q x : ℕ) → variable_of h ≡ Some x → AreListed trees s.listed → DefinesOnly s r (with_definition s.defined (x, length s.replications.items)) → IsEntered trees s r w h a p q
variable_entered trees s r w h a p q x e live d =
    let one = defining_head s.replications.items w h a p q x e in
    defines_entered trees s r w h a p q live one.0 one.2 one.3 (subst (λ l. DefinesOnly s r (with_definitions s.defined (length s.replications.items) l)) (sym one.1) d)

-- a head that makes nothing known
abbrev pub IsPlain : List (ℕ × ℕ) → Position → Head → Tree → ℕ → ℕ → Type 0
IsPlain rs w h a p q = (replications_below h rs ≡ rs) × (defined_by h a ≡ []) × (listed_by w h a ≡ []) × (passed_by w h p q ≡ [])

pub plain_head : (rs : List (ℕ × ℕ)) (w : Position) (h : Head) (a : Tree) (p q : ℕ) → variable_of h ≡ None → ((i n : ℕ) → h ≡ Repl i n → ⊥) → ((c : ℕ) → h ≡ In c → ⊥) → ((l : ℕ) → h ≡ Find l → ⊥) → (h ≡ Branch → ⊥) → (h ≡ Cons → ⊥) → IsPlain rs w h a p q
plain_head rs w (Repl i n) a p q v m i' f b c = absurd (m i n refl)
plain_head rs w (In d) a p q v m i f b c = absurd (i d refl)
plain_head rs w (New x T) a p q v m i f b c = absurd (cc)
plain_head rs w (Let x T) a p q v m i f b c = absurd (cc)
plain_head rs w (Key x) a p q v m i f b c = absurd (cc)
plain_head rs w (Call x j) a p q v m i f b c = absurd (cc)
plain_head rs w (Find x) a p q v m i f b c = absurd (f x refl)
plain_head rs w Branch a p q v m i f b c = absurd (b refl)
plain_head rs w Cons a p q v m i f b c = absurd (c refl)
plain_head rs w h a p q v m i f b c = (refl, refl, refl, refl)

pub plain_entered : (trees : List KindTree) (s : State) (w : Position) (h : Head) (a : Tree) (p q : ℕ) → AreListed trees s.listed → IsPlain s.replications.items w h a p q → IsEntered trees s s w h a p q
plain_entered trees s w h a p q live e =
    defines_entered trees s s w h a p q live e.0 e.2 e.3 (record { replications = refl; defined = ap (with_definitions s.defined (length s.replications.items)) (sym e.1); listed = refl; passed = refl; last = refl })
