-- Trees as lists of their nodes behind their children.
use Rattle.std.proofs.Common.{◌≡◌, ℕ, ◌+◌, ◌*◌, ◌<◌, ◌≤◌, ◌⊎◌, inl, inr, List, [], ◌∷◌, ◌++◌, length, map, reverse, Option, Some, None, Result, Ok, Err, refl, sym, ap, ◌∙◌, min, arith, append_assoc, append-nil, length-append, Bool, true, false, ltb, ltb-true, ltb-false}
use Rattle.std.specs.Prelude.{flat_map, unwrap_or, IsSome, OnOk}
use Rattle.std.specs.Option.{option_to_list}
use Rattle.std.proofs.lemmas.List.{reverse-append}
use Rattle.cv_pool.specs.declared.node.NodeId.{NodeId}
use Rattle.cv_syntax_trees.specs.declared.head.Head.{Head}
use Rattle.cv_syntax.specs.declared.make.Make.{Make}
use Rattle.cv_syntax.specs.declared.make.Make.TheVariants as make
use Rattle.cv_syntax.specs.Planting.{overs}
use Rattle.cv_syntax.specs.Postorder.{postorder}
use Rattle.cv_syntax_trees.specs.Tree.{Tree, Empty, Node}
use Rattle.cv_syntax_trees.proofs.lists.Numbers.{below_or_not}

pub overs_append : (xs ys : List Make) → overs (xs ++ ys) ≡ overs xs + overs ys
overs_append [] ys = omega arith
overs_append (make.Nothing ∷ xs) ys = overs_append xs ys
overs_append (make.Over h ∷ xs) ys = omega (arith, overs_append xs ys)

-- a listed tree has an entry for each of its nodes, and one more for nothing
pub entries : (t : Tree) → length (postorder t) ≡ 2 * overs (postorder t) + 1
unfolding postorder
entries Empty = refl
entries (Node h a b) =
    omega (arith, entries a, entries b, length-append (postorder a) (postorder b ++ make.Over h ∷ []), length-append (postorder b) (make.Over h ∷ []), overs_append (postorder a) (postorder b ++ make.Over h ∷ []), overs_append (postorder b) (make.Over h ∷ []))

-- what is left to be listed, where the heads above are still to come
abbrev pub Listed : List Make → List Make → List Head → List Make → Type 0
Listed makes below heads goal = makes ++ (below ++ map make.Over (reverse heads)) ≡ goal

pub listed_node : (makes more goal : List Make) (heads higher : List Head) (h : Head) (a b : Tree)
    → Listed makes (postorder (Node h a b)) heads goal → more ≡ makes ++ postorder a → higher ≡ heads ++ h ∷ [] → reverse higher ≡ h ∷ reverse heads → Listed more (postorder b) higher goal
unfolding postorder
listed_node makes more goal heads higher h a b l e f r =
    let rest : List Make = map make.Over (reverse heads) in
    ap (λ m. m ++ (postorder b ++ map make.Over (reverse higher))) e
    ∙ ap (λ hs. (makes ++ postorder a) ++ (postorder b ++ map make.Over hs)) r
    ∙ append_assoc makes (postorder a) (postorder b ++ make.Over h ∷ rest)
    ∙ ap (λ m. makes ++ (postorder a ++ m)) (sym (append_assoc (postorder b) (make.Over h ∷ []) rest))
    ∙ ap (λ m. makes ++ m) (sym (append_assoc (postorder a) (postorder b ++ make.Over h ∷ []) rest))
    ∙ l

-- the tree that stands for the rest is a node, or none, or was listed
module _ (makes more goal : List Make) (heads : List Head) (t : Tree) where
  pub listed_same : (u : Tree) → t ≡ u → Listed makes (postorder t) heads goal → Listed makes (postorder u) heads goal
  listed_same u e l = ap (λ v. makes ++ (postorder v ++ map make.Over (reverse heads))) (sym e) ∙ l

  pub listed_on : (higher : List Head) (h : Head) (a b : Tree) → t ≡ Node h a b → Listed makes (postorder t) heads goal → more ≡ makes ++ postorder a → higher ≡ heads ++ h ∷ [] → Listed more (postorder b) higher goal
  listed_on higher h a b e l f g = listed_node makes more goal heads higher h a b (listed_same (Node h a b) e l) f g (ap reverse g ∙ reverse-append heads (h ∷ []))

  -- what was listed last
  pub listed_last : (all : List Make) → Listed makes (postorder t) heads goal → more ≡ makes ++ postorder t → all ≡ more ++ map make.Over (reverse heads) → all ≡ goal
  listed_last all l f g = g ∙ (ap (λ m. m ++ map make.Over (reverse heads)) f ∙ (append_assoc makes (postorder t) (map make.Over (reverse heads)) ∙ l))

  pub listed_end : (all : List Make) → t ≡ Empty → Listed makes (postorder t) heads goal → more ≡ makes ++ make.Nothing ∷ [] → all ≡ more ++ map make.Over (reverse heads) → all ≡ goal
  unfolding postorder
  listed_end all e l f g = listed_last all l (f ∙ ap (λ u. makes ++ postorder u) (sym e)) g

-- the root of a list of one tree
one_root : {A : Type 0} (f : A → Tree) (xs : List A) (t : Tree) → map f xs ≡ t ∷ [] → length xs ≡ 1
one_root f [] t e = absurd (cc)
one_root f (x ∷ []) t e = refl
one_root f (x ∷ (y ∷ ys)) t e = absurd (cc)

pub popped : (f : Option NodeId → Tree) (xs vs : List (Option NodeId)) (o : Option (Option NodeId)) (t : Tree) → map f xs ≡ t ∷ [] → xs ≡ vs ++ option_to_list o → (0 < length xs → IsSome o) → f (unwrap_or o None) ≡ t
popped f xs vs None t e g h = let k = h (omega (arith, one_root f xs t e)) in absurd (cc)
popped f xs [] (Some o) t e g h = let k : map f (o ∷ []) ≡ t ∷ [] = ap (map f) (sym g) ∙ e in cc
popped f xs (v ∷ vs) (Some o) t e g h = absurd (omega (arith, one_root f xs t e, ap length g, length-append vs (o ∷ [])))

pub no_error : {T E : Type 0} (r : Result T E) (u : T) (e : E) → r ≡ Ok u → r ≡ Err e → ⊥
no_error r u e f g = cc

pub accepted_where : {T E : Type 0} (r : Result T E) (e : E) (limit need : ℕ) → (limit < need → r ≡ Err e) → OnOk r (need ≤ limit)
accepted_where (Ok u) e limit need f = go (below_or_not limit need)
  where
    go : (limit < need) ⊎ (need ≤ limit) → need ≤ limit
    go (inl l) = absurd (no_error (Ok u) u e refl (f l))
    go (inr l) = l
accepted_where (Err d) e limit need f = tt

pub on_ok : {T E : Type 0} {P Q : Type 0} (r : Result T E) → (P → Q) → OnOk r P → OnOk r Q
on_ok (Ok u) f p = f p
on_ok (Err e) f p = p

-- a pool that is asked for as many nodes as it can count
pub asked_most : (n need total limit live : ℕ) → need ≡ min total 4294967295 → 4294967295 ≤ total → limit < 4294967295 → n ≡ 4294967295 → (n ≡ need) × (limit < live + n)
asked_most n need total limit live e l m f = (omega arith, omega arith)

pub one_list : (t : Tree) (ms : List Make) → ms ≡ postorder t → ms ≡ flat_map postorder (t ∷ [])
one_list t ms e = e ∙ sym (append-nil (postorder t))
