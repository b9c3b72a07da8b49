-- What the laws of runs ask of a game beside typing and scope: that its names are known, and its types and parameters declared.
use Rattle.std.proofs.Common.{◌≡◌, ℕ, ◌+◌, ◌-◌, ◌==◌, ◌&&◌, Bool, true, false, cond, List, [], ◌∷◌, Contains, inr, Option, Some, None, is_some, refl, sym, ap, ap₂, subst, ◌∙◌, eqb-true}
use Rattle.std.proofs.lemmas.Bool.{both_ways, and_parts}
use Rattle.std.proofs.lemmas.List.Elements.{Contains-append_left, Contains-append_right, Contains-push}
use Rattle.cv_syntax_trees.specs.declared.class.Class.TheVariants as class
use Rattle.cv_syntax_trees.specs.declared.head.Head.{Head}
use Rattle.cv_syntax_trees.specs.declared.head.Head.TheVariants.{In, Branch, Leaf, Read, Apply, Cons, Key, Call}
use Rattle.cv_syntax_trees.specs.Declarations.{Declaration, Named, Equation, Equiv, Query}
use Rattle.cv_syntax_trees.specs.Head.{weight}
use Rattle.cv_syntax_trees.specs.Tree.{Tree, Empty, Node, size}
use Rattle.cv_meaning_laws.specs.adequacy.Typed as meaning
use Rattle.cv_meaning_laws.specs.adequacy.Typed.{IsDeclared}
use Rattle.cv_meaning_runs.specs.Replacement as at
use Rattle.cv_meaning_runs.specs.Replacement.{Part, Process, IsReplaced}
use Rattle.cv_meaning.specs.Replaced.{replaced}
use Rattle.cv_meaning_chances.specs.unread.Dropping.{IsDropped, same, gone, kept, in_parallel, in_list, in_find, in_branch, in_later_branch}
use Rattle.cv_scope_rules.specs.Context.{first_position, second_position}
use Rattle.cv_scope_rules.specs.Phrases.{Phrase, Inputs, Arm, Body, Guards, Cells, OneCell, Term, parts, oracle_parts, both_are, is_phrase}
use Rattle.cv_scope_runs.proofs.Rows.{position_of, placed}
use Rattle.cv_scope_rules.specs.typing.Signature.{function_in, declaration_of}
use Rattle.cv_typing_runs.specs.Games.{HasDeclaredSorts, NamesDeclared, is_variable_cell, are_variable_cells, is_named, are_named}
use Rattle.cv_scene.specs.Scenes.{is_type_by}
use Rattle.cv_scene.specs.Terms.{Names, is_function, head_is_there, is_there}
use Rattle.cv_scene.specs.Pruning as pruning
use Rattle.cv_scene.specs.Pruning.{Pruned, pruned}
use Rattle.cv_steps.specs.Rewriting.{has_term_at, parts_of}
use Rattle.cv_steps.proofs.Places.{Found, IsInFirst, IsInSecond, bare, found, here, in_first, in_second, is_bare, nothing_there}
use Rattle.cv_steps.proofs.Pruned.{left_keeps}
use Rattle.cv_steps_laws.proofs.Unletted.{IsKept, has_names}
use Rattle.cv_steps.proofs.Flat.{AreStill, IfStill, is_of_terms, open_phrase, rows_still}
use Rattle.cv_typing_runs.proofs.Declared.{head_in, tail_in}

-- names

pub oracle_of_parts : (σ : Phrase) (h : Head) (q : Phrase × Phrase) → parts σ h ≡ Some q → oracle_parts σ h ≡ Some q
oracle_of_parts Body (Key x) q e = absurd (cc)
oracle_of_parts Body (Call x l) q e = absurd (cc)
oracle_of_parts σ h q e = e

module _ (ds : List Declaration) (variable index : ℕ → Bool) where
  abbrev known : Names
  known = record { function = is_function ds; variable = variable; index = index }

  cells_there : (t : Tree) → is_there known Cells t ≡ true → are_variable_cells variable t ≡ true
  unfolding is_there
  cells_there Empty e = refl
  cells_there (Node Cons item more) e =
      let p = and_parts (is_there known OneCell item) _ e in
      ap₂ ◌&&◌ (one item p.0) (cells_there more p.1)
    where
      one : (c : Tree) → is_there known OneCell c ≡ true → is_variable_cell variable c ≡ true
      one Empty e = refl
      one (Node (Leaf x) a b) e = (and_parts (variable x) _ e).0
      one (Node (Read x) a b) e = (and_parts (variable x) _ e).0
      one (Node h a b) e = refl
  cells_there (Node h item more) e = absurd (both_ways false refl (and_parts (head_is_there known Cells h) _ e).1)

  -- what is named by itself at a node
  node_named : (σ : Phrase) (h : Head) (a b : Tree) → is_there known σ (Node h a b) ≡ true → is_named ds variable (position_of σ) h a ≡ true
  unfolding is_there
  node_named Guards Cons a b e = cells_there a (and_parts (is_there known Cells a) _ e).0
  node_named σ (Apply f) a b e = (and_parts (is_some (function_in ds f)) _ e).0
  node_named σ h a b e = refl

  pub there_named : (σ : Phrase) (t : Tree) → is_there known σ t ≡ true → are_named ds variable (position_of σ) t ≡ true
  unfolding is_there are_named
  there_named σ Empty e = refl
  there_named σ (Node h a b) e =
      go (parts σ h) refl (and_parts (head_is_there known σ h) _ e).1 (λ τ. there_named τ a) (λ ρ. there_named ρ b)
    where
      go : (o : Option (Phrase × Phrase)) → parts σ h ≡ o → both_are o (λ τ. is_there known τ a) (λ ρ. is_there known ρ b) ≡ true
          → ((τ : Phrase) → is_there known τ a ≡ true → are_named ds variable (position_of τ) a ≡ true) → ((ρ : Phrase) → is_there known ρ b ≡ true → are_named ds variable (position_of ρ) b ≡ true)
          → is_named ds variable (position_of σ) h a && (are_named ds variable (first_position (position_of σ) h) a && are_named ds variable (second_position (position_of σ) h) b) ≡ true
      go None f z k l = absurd (both_ways false refl z)
      go (Some q) f z k l =
          let r = and_parts (is_there known q.0 a) _ z in
          let w = placed σ q.0 q.1 h (oracle_of_parts σ h q f) in
          ap₂ ◌&&◌ (node_named σ h a b e)
          (ap₂ ◌&&◌ (ap (λ v. are_named ds variable v a) w.0 ∙ k q.0 r.0) (ap (λ v. are_named ds variable v b) w.1 ∙ l q.1 r.1))

-- types and parameters

abbrev IsTypeOf : List Declaration → ℕ → Type 0
IsTypeOf ds T = (fixed large : Bool) × (arguments : Tree) × (result : Option ℕ) × Contains ds (Named T (class.TypeName fixed large) arguments result)

further : (ds : List Declaration) (d : Declaration) (T : ℕ) → IsTypeOf ds T → IsTypeOf (d ∷ ds) T
further ds d T h = (h.0, h.1, h.2, h.3, tail_in ds d _ h.4)

type_found : (ds : List Declaration) (T : ℕ) → is_type_by (declaration_of ds T) ≡ true → IsTypeOf ds T
type_found [] T e = absurd (both_ways false refl e)
type_found (Named y (class.TypeName fixed large) arguments result ∷ ds) T e = go (T == y) refl e (type_found ds T)
  where
    d : Declaration
    d = Named y (class.TypeName fixed large) arguments result

    go : (v : Bool) → (T == y) ≡ v → is_type_by (cond v (Some d) (declaration_of ds T)) ≡ true → (is_type_by (declaration_of ds T) ≡ true → IsTypeOf ds T) → IsTypeOf (d ∷ ds) T
    go true f e k = (fixed, large, arguments, result, subst (λ x. Contains (d ∷ ds) (Named x (class.TypeName fixed large) arguments result)) (sym (eqb-true T y f)) (head_in ds d))
    go false f e k = further ds d T (k e)
type_found (Named y c arguments result ∷ ds) T e = go (T == y) e (type_found ds T)
  where
    go : (v : Bool) → is_type_by (cond v (Some (Named y c arguments result)) (declaration_of ds T)) ≡ true → (is_type_by (declaration_of ds T) ≡ true → IsTypeOf ds T) → IsTypeOf (Named y c arguments result ∷ ds) T
    go true e k = absurd (both_ways false refl e)
    go false e k = further ds (Named y c arguments result) T (k e)
type_found (Equiv y t ∷ ds) T e = go (T == y) e (type_found ds T)
  where
    go : (v : Bool) → is_type_by (cond v (Some (Equiv y t)) (declaration_of ds T)) ≡ true → (is_type_by (declaration_of ds T) ≡ true → IsTypeOf ds T) → IsTypeOf (Equiv y t ∷ ds) T
    go true e k = absurd (both_ways false refl e)
    go false e k = further ds (Equiv y t) T (k e)
type_found (Equation t ∷ ds) T e = further ds (Equation t) T (type_found ds T e)
type_found (Query t ∷ ds) T e = further ds (Query t) T (type_found ds T e)

pub type_declared : (ds : List Declaration) (T : ℕ) → is_type_by (declaration_of ds T) ≡ true → IsDeclared ds (meaning.OfType T)
type_declared ds T e = inr (type_found ds T e)

-- a term names none

terms_declared : (ds : List Declaration) (σ : Phrase) (t : Tree) → is_of_terms σ ≡ true → is_phrase σ t ≡ true → HasDeclaredSorts ds t
unfolding HasDeclaredSorts
terms_declared ds σ Empty f e = tt
terms_declared ds σ (Node h a b) f e =
    let o = open_phrase σ h a b e in
    let r : AreStill h o.0 = subst (IfStill h) o.1 (rows_still σ h f) in
    (r.unsorted ds a, terms_declared ds o.0.0 a r.first o.2, terms_declared ds o.0.1 b r.second o.3)

pub term_declared : (ds : List Declaration) (t : Tree) → is_phrase Term t ≡ true → HasDeclaredSorts ds t
term_declared ds t e = terms_declared ds Term t refl e

pub declared_replaced : (ds : List Declaration) (old new : Tree) (place : ℕ) → (HasDeclaredSorts ds old → HasDeclaredSorts ds new) → (part : Part) (p : ℕ) (b c : Tree) → IsReplaced old new place part p b c → HasDeclaredSorts ds b → HasDeclaredSorts ds c
unfolding HasDeclaredSorts
declared_replaced ds old new place k part p b c at.here d = k d
declared_replaced ds old new place k part p b c (at.in_continuation {b = x} {c = y} z) d = (d.0, d.1, declared_replaced ds old new place k Process _ x y z d.2)
declared_replaced ds old new place k part p b c (at.in_parallel {a = x} {c = y} z) d = (tt, declared_replaced ds old new place k Process _ x y z d.1, d.2)
declared_replaced ds old new place k part p b c (at.in_list {a = x} {c = y} z) d = (tt, declared_replaced ds old new place k Process _ x y z d.1, d.2)
declared_replaced ds old new place k part p b c (at.in_find {a = x} {c = y} z) d = (tt, declared_replaced ds old new place k at.Branches _ x y z d.1, d.2)
declared_replaced ds old new place k part p b c (at.in_branch {b = x} {c = y} z) d = (tt, (d.1.0, d.1.1, (tt, d.1.2.1, (tt, d.1.2.2.1, declared_replaced ds old new place k Process _ x y z d.1.2.2.2))), d.2)
declared_replaced ds old new place k part p b c (at.in_later_branch {b = x} {c = y} z) d = (tt, d.1, declared_replaced ds old new place k at.Branches _ x y z d.2)

pub declared_dropped : (ds : List Declaration) (xs : ℕ → Bool) (part : Part) (b c : Tree) → IsDropped xs part b c → HasDeclaredSorts ds b → HasDeclaredSorts ds c
unfolding HasDeclaredSorts
declared_dropped ds xs part b c (same e) d = d
declared_dropped ds xs part b c (gone {b = x} e f o z) d = declared_dropped ds xs Process x c z d.2
declared_dropped ds xs part b c (kept {b = x} {c = y} e z) d = (d.0, d.1, declared_dropped ds xs Process x y z d.2)
declared_dropped ds xs part b c (in_parallel {a = a} {b = x} {c = e} {d = y} w z) d = (tt, declared_dropped ds xs Process a e w d.1, declared_dropped ds xs Process x y z d.2)
declared_dropped ds xs part b c (in_list {a = a} {b = x} {c = e} {d = y} w z) d = (tt, declared_dropped ds xs Process a e w d.1, declared_dropped ds xs Process x y z d.2)
declared_dropped ds xs part b c (in_find {a = a} {b = x} {c = e} {d = y} w z) d = (tt, declared_dropped ds xs at.Branches a e w d.1, declared_dropped ds xs Process x y z d.2)
declared_dropped ds xs part b c (in_branch {b = x} {c = y} {more = more} {rest = rest} e f h w z) d = (tt, (d.1.0, d.1.1, (tt, d.1.2.1, (tt, d.1.2.2.1, declared_dropped ds xs Process x y w d.1.2.2.2))), declared_dropped ds xs at.Branches more rest z d.2)
declared_dropped ds xs part b c (in_later_branch {b = x} {c = y} e z) d = (tt, d.1, declared_dropped ds xs at.Branches x y z d.2)

-- what is left of a construct

pub left_declared : (ds : List Declaration) (p : ℕ) (t : Tree) (part : pruning.Part) (b : Pruned) → pruned p t part ≡ Some b → HasDeclaredSorts ds t → HasDeclaredSorts ds b.left
unfolding HasDeclaredSorts
left_declared ds p t part b e d = left_keeps (HasDeclaredSorts ds) (λ h x y k. (k.1, k.2)) (λ h x y z k l. (k.0, k.1, l)) (λ l x y z k n. (tt, n, k.2)) p t part b e d

-- a term in the place of another

no_pattern : (σ : Phrase) (c : ℕ) → is_bare (parts_of σ (In c)).0 ≡ true
no_pattern Inputs c = refl
no_pattern σ c = refl

no_binders : (σ : Phrase) → is_bare (parts_of σ Branch).0 ≡ true
no_binders Arm = refl
no_binders σ = refl

head_declared : (ds : List Declaration) (m : Tree) (σ : Phrase) (h : Head) (a : Tree) (q : ℕ) → has_term_at (parts_of σ h).0 a q ≡ true → NamesDeclared ds h a → NamesDeclared ds h (replaced a q m)
head_declared ds m σ (In c) a q e d = absurd (bare (parts_of σ (In c)).0 a q (no_pattern σ c) e)
head_declared ds m σ Branch a q e d = absurd (bare (parts_of σ Branch).0 a q (no_binders σ) e)
head_declared ds m σ h a q e d = d

pub declared_rewritten : (ds : List Declaration) (m : Tree) → HasDeclaredSorts ds m → (σ : Phrase) (t : Tree) (q : ℕ) → has_term_at σ t q ≡ true → HasDeclaredSorts ds t → HasDeclaredSorts ds (replaced t q m)
unfolding HasDeclaredSorts
declared_rewritten ds m k σ Empty q e d = absurd (nothing_there σ q e)
declared_rewritten ds m k σ (Node h a b) q e d =
    go (found m σ h a b q e) (λ f. declared_rewritten ds m k (parts_of σ h).0 a (q - weight h) f.term d.1) (λ f. declared_rewritten ds m k (parts_of σ h).1 b (q - (weight h + size a)) f.term d.2)
  where
    go : Found m σ h a b q → (IsInFirst m σ h a b q → HasDeclaredSorts ds (replaced a (q - weight h) m)) → (IsInSecond m σ h a b q → HasDeclaredSorts ds (replaced b (q - (weight h + size a)) m)) → HasDeclaredSorts ds (replaced (Node h a b) q m)
    go (here f) x y = subst (HasDeclaredSorts ds) (sym f.next) k
    go (in_first f) x y = subst (HasDeclaredSorts ds) (sym f.next) (head_declared ds m σ h a (q - weight h) f.term d.0, x f, d.2)
    go (in_second f) x y = subst (HasDeclaredSorts ds) (sym f.next) (d.0, d.1, y f)

-- the game without an assignment

names_declared : (ds : List Declaration) (h : Head) (a c : Tree) → (has_names h ≡ true → a ≡ c) → NamesDeclared ds h a → NamesDeclared ds h c
names_declared ds (In x) a c e d = subst (NamesDeclared ds (In x)) (e refl) d
names_declared ds Branch a c e d = subst (NamesDeclared ds Branch) (e refl) d
names_declared ds h a c e d = d

pub sorts_kept : (ds : List Declaration) → IsKept (HasDeclaredSorts ds)
unfolding HasDeclaredSorts
sorts_kept ds = record {
  terms = λ σ t f e. terms_declared ds σ t f e;
  children = λ h a b d. (d.1, d.2);
  node = λ h a b c n e d x y. (names_declared ds h a c e d.0, x, y);
}
