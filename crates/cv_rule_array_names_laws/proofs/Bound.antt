-- The next game binds no index that the game has not, where the next game is in the grammar.
use Rattle.std.proofs.Common.{◌≡◌, ℕ, true, false, List, [], ◌∷◌, map, Option, Some, None, is_some, refl, sym, ap}
use Rattle.std.proofs.lemmas.Bool.{and_parts, both_ways}
use Rattle.cv_syntax_trees.specs.declared.head.Head.{Head}
use Rattle.cv_syntax_trees.specs.declared.head.Head.TheVariants.{Binder, Branch, Cons, Find, In, Leaf, Name, Par, Read, Repl}
use Rattle.cv_syntax_trees.specs.Tree.{Tree, Empty, Node, first_place, second_place}
use Rattle.cv_syntax_trees.specs.sites.Sites.{index_here}
use Rattle.cv_scope_rules.specs.Phrases.{Phrase, Arm as ArmPhrase, Binders, Indices, Inputs, Nil, Pattern, Body, Guards, is_phrase, parts}
use Rattle.cv_steps.specs.Renaming.{renamed_head}
use Rattle.cv_steps.proofs.Flat.{open_phrase}
use Rattle.cv_steps_laws.proofs.Indices.{Lacks, lacking_empty, lacking_node, lacking_parts}
use Rattle.cv_steps_laws.proofs.Unletted.{has_names, is_bare}
use Rattle.cv_edit_names.specs.Cells.{called_head, name_of, with_names}
use Rattle.cv_edit_names.specs.Naming.{Naming, name_at}
use Rattle.cv_edit_names.specs.Splitting.{Around, behind, body_place, copies_of, followed_by, in_replication, names_known, message_with_name, split_branches, split_in, with_name}

names_bare : (σ : Phrase) (h : Head) (q : Phrase × Phrase) → parts σ h ≡ Some q → has_names h ≡ true → is_bare q.0 ≡ true
names_bare Inputs (In c) q e f = let i : (let p : Phrase × Phrase = (Pattern, Body) in p) ≡ q = cc in ap (λ (p : Phrase × Phrase). is_bare p.0) (sym i)
names_bare ArmPhrase Branch q e f = let i : (let p : Phrase × Phrase = (Binders, Guards) in p) ≡ q = cc in ap (λ (p : Phrase × Phrase). is_bare p.0) (sym i)
names_bare σ (In c) q e f = absurd (cc)
names_bare σ Branch q e f = absurd (cc)
names_bare σ h q e f = absurd (both_ways false refl f)

module _ (i : ℕ) where
  -- lists of names and of binders
  bare_lacks : (σ : Phrase) (t : Tree) → is_bare σ ≡ true → is_phrase σ t ≡ true → Lacks i t
  unfolding is_phrase
  bare_lacks σ Empty f e = lacking_empty i
  bare_lacks Pattern (Node Cons a b) f e = let p = and_parts (is_phrase Indices a) _ e in lacking_node i Cons a b refl (bare_lacks Indices a refl p.0) (bare_lacks Binders b refl p.1)
  bare_lacks Indices (Node (Name z) a b) f e = let p = and_parts (is_phrase Nil a) _ e in lacking_node i (Name z) a b refl (bare_lacks Nil a refl p.0) (bare_lacks Indices b refl p.1)
  bare_lacks Binders (Node (Binder z T) a b) f e = let p = and_parts (is_phrase Nil a) _ e in lacking_node i (Binder z T) a b refl (bare_lacks Nil a refl p.0) (bare_lacks Binders b refl p.1)
  bare_lacks Nil (Node h a b) f e = absurd (both_ways false refl e)
  bare_lacks Pattern (Node h a b) f e = absurd (both_ways false refl e)
  bare_lacks Indices (Node h a b) f e = absurd (both_ways false refl e)
  bare_lacks Binders (Node h a b) f e = absurd (both_ways false refl e)
  bare_lacks σ (Node h a b) f e = absurd (both_ways false refl f)

  -- terms with other names

  called_lacks : (h : Head) (o : Option ℕ) → is_some (index_here i h) ≡ false → is_some (index_here i (called_head h o)) ≡ false
  called_lacks (Leaf z) (Some y) e = refl
  called_lacks (Read z) (Some y) e = refl
  called_lacks (Leaf z) None e = refl
  called_lacks (Read z) None e = refl
  called_lacks h o e = e

  named_lacks : (named : List (Tree × ℕ)) (t : Tree) → Lacks i t → Lacks i (with_names named t)
  unfolding with_names
  named_lacks named Empty l = lacking_empty i
  named_lacks named (Node h a b) l =
      let q = lacking_parts i h a b l in
      lacking_node i (called_head h (name_of named (Node h a b))) (with_names named a) (with_names named b) (called_lacks h (name_of named (Node h a b)) q.0) (named_lacks named a q.1) (named_lacks named b q.2)

  -- several copies

  abbrev IfPhrase : Tree → Type 0
  IfPhrase t = (σ : Phrase) → is_phrase σ t ≡ true → Lacks i t

  copies_lack : (f : Around → Tree) → ((d : Around) → IfPhrase (f d)) → (ds : List Around) (rest : Tree) → IfPhrase rest → IfPhrase (followed_by (map f ds) rest)
  copies_lack f each [] rest behind_it σ e = behind_it σ e
  copies_lack f each (d ∷ ds) rest behind_it σ e =
      let o = open_phrase σ Cons (f d) (followed_by (map f ds) rest) e in
      lacking_node i Cons (f d) (followed_by (map f ds) rest) refl (each d o.0.0 o.2) (copies_lack f each ds rest behind_it o.0.1 o.3)

  module _ (n : Naming) where
    -- a copy by its parts
    copy_lacks : (us cells c : Tree) (p : ℕ) (d : Around) (body : Tree) → Lacks i cells → Lacks i c → IfPhrase body → IfPhrase (Node Branch (with_name n p us) (Node Cons (with_names (names_known d) cells) (Node Cons (with_names (names_known d) c) body)))
    copy_lacks us cells c p d body l m k σ e =
        let o = open_phrase σ Branch (with_name n p us) (Node Cons (with_names (names_known d) cells) (Node Cons (with_names (names_known d) c) body)) e in
        let q = open_phrase o.0.1 Cons (with_names (names_known d) cells) (Node Cons (with_names (names_known d) c) body) o.3 in
        let r = open_phrase q.0.1 Cons (with_names (names_known d) c) body q.3 in
        lacking_node i Branch _ _ refl (bare_lacks o.0.0 (with_name n p us) (names_bare σ Branch o.0 o.1 refl) o.2)
        (lacking_node i Cons _ _ refl (named_lacks (names_known d) cells l) (lacking_node i Cons _ _ refl (named_lacks (names_known d) c m) (k r.0.1 r.3)))

    mutual
      unfolding split_in split_branches

      pub split_lacks : (e : Around) (p : ℕ) (t : Tree) → Lacks i t → IfPhrase (split_in n e p t)
      split_lacks e p Empty l σ w = lacking_empty i
      split_lacks e p (Node (Repl j m) a b) l σ w =
          let q = lacking_parts i (Repl j m) a b l in
          let o = open_phrase σ (Repl j m) a (split_in n (in_replication (Repl j m) e) (second_place p (Repl j m) a) b) w in
          lacking_node i (Repl j m) a _ q.0 q.1 (split_lacks (in_replication (Repl j m) e) (second_place p (Repl j m) a) b q.2 o.0.1 o.3)
      split_lacks e p (Node Par a b) l σ w =
          let q = lacking_parts i Par a b l in
          let o = open_phrase σ Par (split_in n e (first_place p Par) a) (split_in n e (second_place p Par a) b) w in
          lacking_node i Par _ _ refl (split_lacks e (first_place p Par) a q.1 o.0.0 o.2) (split_lacks e (second_place p Par a) b q.2 o.0.1 o.3)
      split_lacks e p (Node Cons a b) l σ w =
          let q = lacking_parts i Cons a b l in
          let o = open_phrase σ Cons (split_in n e (first_place p Cons) a) (split_in n e (second_place p Cons a) b) w in
          lacking_node i Cons _ _ refl (split_lacks e (first_place p Cons) a q.1 o.0.0 o.2) (split_lacks e (second_place p Cons a) b q.2 o.0.1 o.3)
      split_lacks e p (Node (In c) a b) l σ w =
          let q = lacking_parts i (In c) a b l in
          let o = open_phrase σ (In c) (message_with_name n p a) (split_in n (behind n p (In c) a e) (second_place p (In c) a) b) w in
          lacking_node i (In c) _ _ refl (bare_lacks o.0.0 (message_with_name n p a) (names_bare σ (In c) o.0 o.1 refl) o.2) (split_lacks (behind n p (In c) a e) (second_place p (In c) a) b q.2 o.0.1 o.3)
      split_lacks e p (Node (Find k) a b) l σ w =
          let q = lacking_parts i (Find k) a b l in
          let o = open_phrase σ (Find k) (split_branches n e (first_place p (Find k)) a) (split_in n e (second_place p (Find k) a) b) w in
          lacking_node i (Find k) _ _ refl (branches_lack e (first_place p (Find k)) a q.1 o.0.0 o.2) (split_lacks e (second_place p (Find k) a) b q.2 o.0.1 o.3)
      split_lacks e p (Node h a b) l σ w =
          let q = lacking_parts i h a b l in
          let o = open_phrase σ (renamed_head n.variable (name_at n p) h) (with_names (names_known e) a) (split_in n (behind n p h a e) (second_place p h a) b) w in
          lacking_node i (renamed_head n.variable (name_at n p) h) _ _ refl (named_lacks (names_known e) a q.1) (split_lacks (behind n p h a e) (second_place p h a) b q.2 o.0.1 o.3)

      branches_lack : (e : Around) (p : ℕ) (t : Tree) → Lacks i t → IfPhrase (split_branches n e p t)
      branches_lack e p (Node Cons (Node Branch us (Node Cons cells (Node Cons c body))) more) l σ w =
          let q = lacking_parts i Cons (Node Branch us (Node Cons cells (Node Cons c body))) more l in
          let r = lacking_parts i Branch us (Node Cons cells (Node Cons c body)) q.1 in
          let s = lacking_parts i Cons cells (Node Cons c body) r.2 in
          let t = lacking_parts i Cons c body s.2 in
          copies_lack
          (λ d.
          Node Branch (with_name n (first_place p Cons) us)
          (Node Cons (with_names (names_known d) cells)
          (Node Cons (with_names (names_known d) c) (split_in n d (body_place (first_place p Cons) us cells c) body))))
          (λ d. copy_lacks us cells c (first_place p Cons) d (split_in n d (body_place (first_place p Cons) us cells c) body) s.1 t.1 (split_lacks d (body_place (first_place p Cons) us cells c) body t.2))
          (copies_of n (behind n (first_place p Cons) Branch us e) cells)
          (split_branches n e (second_place p Cons (Node Branch us (Node Cons cells (Node Cons c body)))) more)
          (branches_lack e (second_place p Cons (Node Branch us (Node Cons cells (Node Cons c body)))) more q.2) σ w
      branches_lack e p t l σ w = l
