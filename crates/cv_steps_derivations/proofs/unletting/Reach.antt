-- Where a variable with one definition, an assignment, is read, the equation of the assignment stands above.
use Rattle.std.proofs.Common.{◌≡◌, ℕ, ◌||◌, ◌==◌, Bool, true, false, cond, not, List, [], ◌∷◌, ◌++◌, ◌⊎◌, inl, inr, Some, refl, sym, ap, ap₂, subst, ◌∙◌, eqb-true, eq-eqb}
use Rattle.std.proofs.lemmas.Bool.{both_ways, or_parts}
use Rattle.std.proofs.lemmas.List.Folds.{list_any-append}
use Rattle.cv_syntax_trees.specs.declared.head.Head.{Head}
use Rattle.cv_syntax_trees.specs.declared.head.Head.TheVariants.{Repl, In, Event, New, Let, If, Branch, Leaf, Read, Cons, Binder, Key, Call}
use Rattle.cv_syntax_trees.specs.Tree.{Tree, Empty, Node, first_place, head_reads_only, second, second_place}
use Rattle.cv_meaning.specs.Interpretation.{Setting}
use Rattle.cv_scope_rules.specs.declared.position.Position.{Position}
use Rattle.cv_scope_rules.specs.declared.position.Position.TheVariants as position
use Rattle.cv_scope_rules.specs.Context.{Context, cell_of, cells_of, first_context, first_position, items, replications_below, second_context, second_position}
use Rattle.cv_scope_rules.specs.Made.{is_bound, made_by}
use Rattle.cv_scope_rules.specs.Phrases.{Phrase, Inputs, Body, Term, is_phrase, oracle_parts, parts}
use Rattle.cv_scope_rules.specs.Rules.{InReach, IsAmong, is_index}
use Rattle.cv_scope_rules.specs.Scope.{is_variable}
use Rattle.cv_scope_rules.specs.Sites.{Variable}
use Rattle.cv_scope_runs.specs.Promises.{after_site, definitions_in}
use Rattle.cv_scope_runs.proofs.Contexts.{not_constant}
use Rattle.cv_scope_runs.proofs.Games.{Game, has_parts, new_index, stands_asked, stands_phrase, stands_variable}
use Rattle.cv_scope_runs.proofs.Rows.{placed, position_of}
use Rattle.cv_scope_runs.proofs.Standing.{Stands, root, in_first, in_second, first_below, second_below}
use Rattle.cv_scene.specs.Instances.{is_read_of}
use Rattle.cv_scene.specs.Scenes.{head_reads}
use Rattle.cv_scene.specs.Sights.{variable_of}
use Rattle.cv_steps.specs.Changes.{only}
use Rattle.cv_steps.specs.Unletting.{Assignment, has_cell_of, is_listed}
use Rattle.cv_steps.proofs.Flat.{open_phrase}
use Rattle.cv_steps_derivations.proofs.unletting.Lists.{AddsNone}
use Rattle.cv_steps_derivations.proofs.unletting.Sites.{OneDefinition}
use Rattle.cv_scope_rules.proofs.Apart.{first_replications, second_replications}

among_left : (c : Tree) (cs ds : List Tree) → IsAmong c cs → IsAmong c (cs ++ ds)
among_left c [] ds i = absurd i
among_left c (e ∷ cs) ds (inl i) = inl i
among_left c (e ∷ cs) ds (inr i) = inr (among_left c cs ds i)

pub among_last : (c : Tree) (cs : List Tree) → IsAmong c (cs ++ c ∷ [])
among_last c [] = inl refl
among_last c (e ∷ cs) = inr (among_last c cs)

pub among_parts : (c : Tree) (cs ds : List Tree) → IsAmong c (cs ++ ds) → IsAmong c cs ⊎ IsAmong c ds
among_parts c [] ds i = inr i
among_parts c (e ∷ cs) ds (inl i) = inl (inl i)
among_parts c (e ∷ cs) ds (inr i) = go (among_parts c cs ds i)
  where
    go : IsAmong c cs ⊎ IsAmong c ds → IsAmong c (e ∷ cs) ⊎ IsAmong c ds
    go (inl k) = inl (inr k)
    go (inr k) = inr k

-- contexts of children

pub first_reach : (w : Position) (h : Head) (Γ : Context) (c : Tree) → InReach (first_context w h Γ) c → InReach Γ c
first_reach position.Bodies Cons Γ c r = r
first_reach position.ElseBody Cons Γ c r = r
first_reach w Cons Γ c r = r
first_reach w h Γ c r = r

pub first_facts : (w : Position) (h : Head) (Γ : Context) (f : Tree) → IsAmong f Γ.facts → IsAmong f (first_context w h Γ).facts
first_facts position.Bodies Cons Γ f i = among_left f Γ.facts _ i
first_facts position.ElseBody Cons Γ f i = among_left f Γ.facts _ i
first_facts w Cons Γ f i = i
first_facts w h Γ f i = i

pub second_facts : (w : Position) (h : Head) (a : Tree) (Γ : Context) (f : Tree) → IsAmong f Γ.facts → IsAmong f (second_context w h a Γ).facts
second_facts position.Guards Cons a Γ f i = i
second_facts position.Guarded Cons a Γ f i = among_left f Γ.facts _ i
second_facts position.Cells Cons a Γ f i = i
second_facts w Cons a Γ f i = i
second_facts w (Repl j n) a Γ f i = i
second_facts w (In c) a Γ f i = i
second_facts w (New y T) a Γ f i = i
second_facts w (Let y T) a Γ f i = among_left f Γ.facts _ i
second_facts w (Key y) a Γ f i = i
second_facts w (Call y l) a Γ f i = i
second_facts w (Event e) a Γ f i = i
second_facts w If a Γ f i = i
second_facts w Branch a Γ f i = i
second_facts w h a Γ f i = i

module _ (x : ℕ) where
  abbrev IsOther : Tree → Type 0
  IsOther c = variable_of c ≡ Some x → ⊥

  abbrev AreOthers : List Tree → Type 0
  AreOthers cs = (c : Tree) → IsAmong c cs → IsOther c

  one_other : (c : Tree) → IsOther c → AreOthers (c ∷ [])
  one_other c o e (inl i) v = o (ap variable_of (sym i) ∙ v)
  one_other c o e (inr i) v = absurd i

  is_read : (c : Tree) → variable_of c ≡ Some x → is_read_of x (variable_of c) ≡ true
  is_read c e = ap (is_read_of x) e ∙ eq-eqb x x refl

  unread_other : (c : Tree) → is_read_of x (variable_of c) ≡ false → IsOther c
  unread_other c e v = both_ways (is_read_of x (variable_of c)) e (is_read c v)

  others_in : (t : Tree) → has_cell_of x t ≡ false → AreOthers (items t)
  others_in Empty e c i v = i
  others_in (Node h a b) e c (inl i) v = unread_other a (or_parts (is_read_of x (variable_of a)) _ e).0 (ap variable_of (sym i) ∙ v)
  others_in (Node h a b) e c (inr i) v = others_in b (or_parts (is_read_of x (variable_of a)) _ e).1 c i v

  own_variable : (rs : List (ℕ × ℕ)) (y : ℕ) → variable_of (cell_of rs y) ≡ Some y
  own_variable [] y = refl
  own_variable (r ∷ rs) y = refl

  own_other : (rs : List (ℕ × ℕ)) (y : ℕ) → (x == y) ≡ false → IsOther (cell_of rs y)
  own_other rs y e v = let i : Some y ≡ Some x = sym (own_variable rs y) ∙ v in both_ways (x == y) e (eq-eqb x y (let k : x ≡ y = cc in k))

  bound_others : (rs : List (ℕ × ℕ)) (us : Tree) → is_bound us x ≡ false → AreOthers (cells_of rs us)
  unfolding is_bound
  bound_others rs (Node (Binder y T) a b) e c (inl i) v = let p = or_parts (x == y) _ e in own_other rs y p.0 (ap variable_of (sym i) ∙ v)
  bound_others rs (Node (Binder y T) a b) e c (inr i) v = bound_others rs b (or_parts (x == y) _ e).1 c i v
  bound_others rs us e c i v = absurd i

  more : (Γ : Context) (cs : List Tree) → AreOthers cs → (c : Tree) → variable_of c ≡ Some x → IsAmong c (Γ.cells ++ cs) ⊎ IsAmong c Γ.own → InReach Γ c
  more Γ cs o c v (inl i) = go (among_parts c Γ.cells cs i)
    where
      go : IsAmong c Γ.cells ⊎ IsAmong c cs → InReach Γ c
      go (inl k) = inl k
      go (inr k) = absurd (o c k v)
  more Γ cs o c v (inr i) = inr i

  more_own : (Γ : Context) (cs : List Tree) → AreOthers cs → (c : Tree) → variable_of c ≡ Some x → IsAmong c Γ.cells ⊎ IsAmong c (Γ.own ++ cs) → InReach Γ c
  more_own Γ cs o c v (inl i) = inl i
  more_own Γ cs o c v (inr i) = go (among_parts c Γ.own cs i)
    where
      go : IsAmong c Γ.own ⊎ IsAmong c cs → InReach Γ c
      go (inl k) = inr k
      go (inr k) = absurd (o c k v)

  -- behind what doesn't define the variable none of its cells is new
  pub second_reach : (w : Position) (h : Head) (a : Tree) (Γ : Context) → made_by h a (Variable x) ≡ false → AddsNone x w h a → (c : Tree) → variable_of c ≡ Some x → InReach (second_context w h a Γ) c → InReach Γ c
  second_reach position.Guards Cons a Γ m n c v r = more Γ (items a) (others_in a n) c v r
  second_reach position.Guarded Cons a Γ m n c v (inl i) = among_parts c Γ.cells Γ.own i
  second_reach position.Guarded Cons a Γ m n c v (inr i) = absurd i
  second_reach position.Cells Cons a Γ m n c v r = more Γ (a ∷ []) (one_other a (unread_other a n)) c v r
  second_reach w Cons a Γ m n c v r = r
  second_reach w (Repl j k) a Γ m n c v r = r
  second_reach w (In k) a Γ m n c v r = more Γ (cells_of Γ.replications (second a)) (bound_others Γ.replications (second a) m) c v r
  second_reach w (New y T) a Γ m n c v r = more Γ (cell_of Γ.replications y ∷ []) (one_other (cell_of Γ.replications y) (own_other Γ.replications y m)) c v r
  second_reach w (Let y T) a Γ m n c v r = more Γ (cell_of Γ.replications y ∷ []) (one_other (cell_of Γ.replications y) (own_other Γ.replications y m)) c v r
  second_reach w (Key y) a Γ m n c v r = more Γ (cell_of Γ.replications y ∷ []) (one_other (cell_of Γ.replications y) (own_other Γ.replications y m)) c v r
  second_reach w (Call y l) a Γ m n c v r = more Γ (cell_of Γ.replications y ∷ []) (one_other (cell_of Γ.replications y) (own_other Γ.replications y m)) c v r
  second_reach w (Event e) a Γ m n c v r = r
  second_reach w If a Γ m n c v r = r
  second_reach w Branch a Γ m n c v r = more_own Γ (cells_of Γ.replications a) (bound_others Γ.replications a m) c v r
  second_reach w h a Γ m n c v r = r

  -- names that are read
  pub read_variable : (h : Head) (a b : Tree) → head_reads x h ≡ true → variable_of (Node h a b) ≡ Some x
  read_variable (Leaf y) a b e = ap Some (eqb-true y x e)
  read_variable (Read y) a b e = ap Some (eqb-true y x e)
  read_variable h a b e = absurd (both_ways false refl e)

  pub unread_head : (h : Head) → head_reads x h ≡ false → head_reads_only (λ y. not (only x y)) h ≡ true
  unread_head (Leaf y) e = ap not e
  unread_head (Read y) e = ap not e
  unread_head h e = refl

module _ (g : Setting) (game : Tree) (x : ℕ) (d : Assignment) (fine : Game g (is_variable game) game) (phrase : is_phrase Inputs game ≡ true) (one : OneDefinition game x d) (free : is_listed x game ≡ false) where
  -- each part of the game is a phrase

  same_parts : (σ τ ρ : Phrase) (h : Head) (q : Phrase × Phrase) → oracle_parts σ h ≡ Some (τ, ρ) → parts σ h ≡ Some q → (τ ≡ q.0) × (ρ ≡ q.1)
  same_parts Body τ ρ (Key y) q e f = absurd (cc)
  same_parts Body τ ρ (Call y l) q e f = absurd (cc)
  same_parts σ τ ρ h q e f = let i : (let z : Phrase × Phrase = (τ, ρ) in z) ≡ q = cc in (ap (λ (z : Phrase × Phrase). z.0) i, ap (λ (z : Phrase × Phrase). z.1) i)

  pub plain : {p : ℕ} {σ : Phrase} {Γ : Context} {b : Tree} → Stands game p σ Γ b → is_phrase σ b ≡ true
  plain root = phrase
  plain (in_first {σ = σ} {τ = τ} {ρ = ρ} {h = h} {a = a} {b = b} e st) = let o = open_phrase σ h a b (plain st) in subst (λ υ. is_phrase υ a ≡ true) (sym (same_parts σ τ ρ h o.0 e o.1).0) o.2
  plain (in_second {σ = σ} {τ = τ} {ρ = ρ} {h = h} {a = a} {b = b} e st) = let o = open_phrase σ h a b (plain st) in subst (λ υ. is_phrase υ b ≡ true) (sym (same_parts σ τ ρ h o.0 e o.1).1) o.3

  -- the variable is one of the game, so no index has its name

  variable_where : (t : Tree) {p : ℕ} {σ : Phrase} {Γ : Context} → Stands game p σ Γ t → (definitions_in x (position_of σ) Γ p t ≡ [] → ⊥) → is_variable game x ≡ true
  unfolding definitions_in
  variable_where Empty st n = absurd (n refl)
  variable_where (Node h a b) {p = p} {σ = σ} {Γ = Γ} st n =
      let q = has_parts σ h a b (stands_phrase g (is_variable game) game fine st) in
      let w = placed σ q.0.0 q.0.1 h q.1 in
      go (made_by h a (Variable x)) refl (definitions_in x (first_position (position_of σ) h) (first_below σ h Γ) (first_place p h) a) (definitions_in x (second_position (position_of σ) h) (second_below σ h a Γ) (second_place p h a) b) n
      (λ k. variable_where a (in_first q.1 st) (λ i. k (ap (λ v. definitions_in x v (first_below σ h Γ) (first_place p h) a) w.0 ∙ i)))
      (λ k. variable_where b (in_second q.1 st) (λ i. k (ap (λ v. definitions_in x v (second_below σ h a Γ) (second_place p h a) b) w.1 ∙ i)))
    where
      go : (v : Bool) → made_by h a (Variable x) ≡ v → (ds es : List (ℕ × Context)) → (cond v ((p, after_site h a b Γ) ∷ []) [] ++ (ds ++ es) ≡ [] → ⊥)
          → ((ds ≡ [] → ⊥) → is_variable game x ≡ true) → ((es ≡ [] → ⊥) → is_variable game x ≡ true) → is_variable game x ≡ true
      go true m ds es n k l = stands_variable g (is_variable game) game fine st x m
      go false m [] es n k l = l n
      go false m (r ∷ ds) es n k l = k (λ z. absurd (cc))

  known : is_variable game x ≡ true
  known = variable_where game root (λ i. absurd (let z : (one.place, one.known) ∷ [] ≡ [] = sym one.one ∙ i in cc))

  index_below : (h : Head) (rs : List (ℕ × ℕ)) → is_index rs x ≡ false → ((i n : ℕ) → h ≡ Repl i n → (i == x) ≡ false) → is_index (replications_below h rs) x ≡ false
  index_below (Repl i n) rs e k = list_any-append (λ (r : ℕ × ℕ). r.0 == x) rs ((i, n) ∷ []) ∙ ap₂ ◌||◌ e (ap₂ ◌||◌ (k i n refl) refl)
  index_below h rs e k = e

  no_index : {p : ℕ} {σ : Phrase} {Γ : Context} {b : Tree} → Stands game p σ Γ b → is_index Γ.replications x ≡ false
  no_index root = refl
  no_index (in_first {σ = σ} {Γ = Γ} {h = h} e st) = ap (λ rs. is_index rs x) (first_replications (position_of σ) h Γ) ∙ no_index st
  no_index (in_second {p = p} {σ = σ} {Γ = Γ} {h = h} {a = a} {b = b} e st) =
      ap (λ rs. is_index rs x) (second_replications (position_of σ) h a Γ)
      ∙ index_below h Γ.replications (no_index st) (λ i n f. go i (i == x) refl (new_index g (is_variable game) game fine (subst (λ k. Stands game p σ Γ (Node k a b)) f st)).no_variable)
    where
      go : (i : ℕ) (v : Bool) → (i == x) ≡ v → is_variable game i ≡ false → v ≡ false
      go i true f e = absurd (both_ways (is_variable game x) (ap (is_variable game) (sym (eqb-true i x f)) ∙ e) known)
      go i false f e = refl

  -- a read of the variable is one of a cell in reach
  pub in_reach : {p : ℕ} {Γ : Context} {h : Head} {a b : Tree} → Stands game p Term Γ (Node h a b) → head_reads x h ≡ true → InReach Γ (Node h a b)
  in_reach {Γ = Γ} {h = Leaf y} {a = a} {b = b} st e = go (stands_asked g (is_variable game) game fine st).0.scope
    where
      same : y ≡ x
      same = eqb-true y x e

      go : (is_index Γ.replications y ≡ true) ⊎ ((g.is_constant y ≡ true) ⊎ InReach Γ (Node (Leaf y) a b)) → InReach Γ (Node (Leaf y) a b)
      go (inl i) = absurd (both_ways (is_index Γ.replications x) (no_index st) (ap (is_index Γ.replications) (sym same) ∙ i))
      go (inr (inl i)) = absurd (both_ways (g.is_constant x) (not_constant g (is_variable game) fine.apart x known) (ap g.is_constant (sym same) ∙ i))
      go (inr (inr i)) = i
  in_reach {h = Read y} st e = (stands_asked g (is_variable game) game fine st).0.scope
  in_reach {h = h} st e = absurd (both_ways false refl e)
