-- The indices above a place, as they are met on the way down.
use Rattle.std.proofs.Common.{◌≡◌, ℕ, ◌+◌, ◌-◌, Bool, true, false, cond, List, [], ◌∷◌, ◌++◌, Option, Some, None, refl, sym, ap, ap₂, ◌∙◌, eqb-true, nat_lt}
use Rattle.std.specs.Prelude.{◌||◌, ◌==◌, is_some, if◌then◌else◌}
use Rattle.std.proofs.Math.Path.{fun_ext}
use Rattle.cv_syntax_trees.specs.declared.head.Head.{Head}
use Rattle.cv_syntax_trees.specs.declared.head.Head.TheVariants.{Cons, Repl}
use Rattle.cv_syntax_trees.specs.Head.{weight}
use Rattle.cv_syntax_trees.specs.Tree.{Tree, Empty, Node, size}
use Rattle.cv_syntax_trees.specs.declared.sites.sort.Sort.{Sort}
use Rattle.cv_syntax_trees.specs.declared.sites.sort.Sort.TheVariants.{BelowParameter}
use Rattle.cv_syntax_trees.specs.sites.Sites.{first_of}
use Rattle.cv_scope_rules.specs.declared.typing.precedence.Precedence.TheVariants.{First, Newest}
use Rattle.cv_scope_rules.specs.typing.Parts.{nothing_above}
use Rattle.cv_scope_rules.specs.typing.Signature.{Above}
use Rattle.cv_scope_rules.specs.typing.Wants.{bound}
use Rattle.cv_scope_rules.specs.declared.position.Position.{Position}
use Rattle.cv_scope_rules.specs.declared.position.Position.TheVariants.{Anywhere, Bodies, ElseBody, Guards, Guarded, Cells}
use Rattle.cv_scope_rules.specs.Context.{Context, context_at, first_context, first_position, item_context, known_at, nothing_known, replications_below, rest_context, second_context, second_position}
use Rattle.cv_scope_rules.specs.Rules.{is_index}
use Rattle.cv_path.specs.declared.place.Lies.TheVariants.{Here, Within, Behind}
use Rattle.cv_path.specs.Places.{LiesAt}
use Rattle.cv_path.proofs.Going.{choice_behind, choice_here, choice_within, less_behind, less_within}
use Rattle.cv_scene.specs.Terms.{indices_above, replications_by}
use Rattle.cv_scene_view.specs.Kept.{above_behind}
use Rattle.cv_scope_rules.proofs.Apart.{first_replications, second_replications}

-- one index

pub first_stays : (f : Above) (h : Head) (i n : ℕ) → h ≡ Repl i n → is_some (f i) ≡ true → f ≡ above_behind h f
first_stays f h i n e g = fun_ext (λ y. sym (cases y (i == y) refl)) ∙ ap (λ k. above_behind k f) (sym e)
  where
    there : (o : Option Sort) (S : Sort) → is_some o ≡ true → first_of o (Some S) ≡ o
    there None S g = absurd (cc)
    there (Some R) S g = refl

    cases : (y : ℕ) (b : Bool) → (i == y) ≡ b → cond b (first_of (f i) (Some (BelowParameter n))) (f y) ≡ f y
    cases y true d = there (f i) (BelowParameter n) g ∙ ap f (eqb-true i y d)
    cases y false d = refl

pub first_new : (f : Above) (h : Head) (i n : ℕ) → h ≡ Repl i n → is_some (f i) ≡ false → bound Newest f i (BelowParameter n) ≡ above_behind h f
first_new f h i n e g = fun_ext (λ y. ap (λ o. cond (i == y) o (f y)) (sym (gone (f i) (BelowParameter n) g))) ∙ ap (λ k. above_behind k f) (sym e)
  where
    gone : (o : Option Sort) (S : Sort) → is_some o ≡ false → first_of o (Some S) ≡ Some S
    gone None S g = refl
    gone (Some R) S g = absurd (cc)

pub other_head : (f : Above) (h : Head) → ((i n : ℕ) → h ≡ Repl i n → ⊥) → f ≡ above_behind h f
other_head f (Repl i n) m = absurd (m i n refl)
other_head f h m = refl

-- the way down, where each node on it changes what is carried along

unfoldable pub led_to : {A : Type 0} → (nothing : A) → (Head → A → A) → A → Tree → ℕ → A
led_to nothing behind f Empty p = nothing
led_to nothing behind f (Node h a b) p =
    if nat_lt p (weight h) then f
    else if nat_lt p (weight h + size a) then led_to nothing behind f a (p - weight h)
    else led_to nothing behind (behind h f) b (p - (weight h + size a))

module _ {A : Type 0} (nothing : A) (behind : Head → A → A) where
  module _ (f : A) (t : Tree) (h : Head) (a b : Tree) (p q : ℕ) (e : t ≡ Node h a b) where
    pub to_here : LiesAt h a p Here → led_to nothing behind f t p ≡ f
    unfolding led_to
    to_here l =
        ap (λ u. led_to nothing behind f u p) e
        ∙ choice_here h a p f (led_to nothing behind f a (p - weight h)) (led_to nothing behind (behind h f) b (p - (weight h + size a))) l

    pub to_within : LiesAt h a p (Within q) → led_to nothing behind f t p ≡ led_to nothing behind f a q
    unfolding led_to
    to_within l =
        ap (λ u. led_to nothing behind f u p) e
        ∙ (choice_within h a p f (led_to nothing behind f a (p - weight h)) (led_to nothing behind (behind h f) b (p - (weight h + size a))) q l
        ∙ ap (led_to nothing behind f a) (less_within h a p q l))

    pub to_behind : (g : A) → LiesAt h a p (Behind q) → g ≡ behind h f → led_to nothing behind f t p ≡ led_to nothing behind g b q
    unfolding led_to
    to_behind g l d =
        ap (λ u. led_to nothing behind f u p) e
        ∙ (choice_behind h a p f (led_to nothing behind f a (p - weight h)) (led_to nothing behind (behind h f) b (p - (weight h + size a))) q l
        ∙ ap₂ (λ k n. led_to nothing behind k b n) (sym d) (less_behind h a p q l))

  pub to_nothing : (f : A) (t : Tree) (p : ℕ) → t ≡ Empty → led_to nothing behind f t p ≡ nothing
  unfolding led_to
  to_nothing f t p e = ap (λ u. led_to nothing behind f u p) e

abbrev pub above_to : Above → Tree → ℕ → Above
above_to = led_to nothing_above above_behind

abbrev pub passed_to : List (ℕ × ℕ) → Tree → ℕ → List (ℕ × ℕ)
passed_to = led_to [] replications_below

-- the same by what is known

more_above : (f : Above) (rs : List (ℕ × ℕ)) (r : ℕ × ℕ) → indices_above f (rs ++ r ∷ []) ≡ bound First (indices_above f rs) r.0 (BelowParameter r.1)
more_above f [] r = refl
more_above f (s ∷ rs) r = more_above (bound First f s.0 (BelowParameter s.1)) rs r

behind_node : (h : Head) (rs : List (ℕ × ℕ)) → indices_above nothing_above (replications_below h rs) ≡ above_behind h (indices_above nothing_above rs)
behind_node (Repl i n) rs = more_above nothing_above rs (i, n)
behind_node h rs = refl

-- what is carried along, as the replications say it
module _ {A : Type 0} (nothing : A) (behind : Head → A → A) (of : List (ℕ × ℕ) → A) (start : of [] ≡ nothing) (more : (h : Head) (rs : List (ℕ × ℕ)) → of (replications_below h rs) ≡ behind h (of rs)) where
  abbrev carried : Option Context → A
  carried o = of (replications_by o)

  choose : (c d : Bool) (f g k : A) (o q r : Option Context) → f ≡ carried o → g ≡ carried q → k ≡ carried r → cond c f (cond d g k) ≡ carried (cond c o (cond d q r))
  choose true d f g k o q r x y z = x
  choose false true f g k o q r x y z = y
  choose false false f g k o q r x y z = z

  to_known : (w : Position) (Γ : Context) (t : Tree) (p : ℕ) → led_to nothing behind (of Γ.replications) t p ≡ carried (context_at w Γ t p)
  unfolding led_to context_at
  to_known w Γ Empty p = sym start
  to_known w Γ (Node h a b) p =
      choose (nat_lt p (weight h)) (nat_lt p (weight h + size a)) (of Γ.replications) (led_to nothing behind (of Γ.replications) a (p - weight h)) (led_to nothing behind (behind h (of Γ.replications)) b (p - (weight h + size a)))
      (Some Γ) (context_at (first_position w h) (first_context w h Γ) a (p - weight h)) (context_at (second_position w h) (second_context w h a Γ) b (p - (weight h + size a))) refl
      (ap (λ rs. led_to nothing behind (of rs) a (p - weight h)) (sym (first_replications w h Γ)) ∙ to_known (first_position w h) (first_context w h Γ) a (p - weight h))
      (ap (λ f. led_to nothing behind f b (p - (weight h + size a))) (sym (ap of (second_replications w h a Γ) ∙ more h Γ.replications)) ∙ to_known (second_position w h) (second_context w h a Γ) b (p - (weight h + size a)))

pub to_game : (game : Tree) (p : ℕ) → above_to nothing_above game p ≡ indices_above nothing_above (replications_by (known_at game p))
to_game game p = to_known nothing_above above_behind (indices_above nothing_above) refl behind_node Anywhere nothing_known game p

pub passed_game : (game : Tree) (p : ℕ) → passed_to [] game p ≡ replications_by (known_at game p)
passed_game game p = to_known [] replications_below (λ rs. rs) refl (λ h rs. refl) Anywhere nothing_known game p

-- an index is one of those above
pub index_above : (f : Above) (rs : List (ℕ × ℕ)) (x : ℕ) → is_some (indices_above f rs x) ≡ (is_some (f x) || is_index rs x)
index_above f [] x = or_nothing (is_some (f x))
  where
    or_nothing : (b : Bool) → b ≡ (b || false)
    or_nothing true = refl
    or_nothing false = refl
index_above f (r ∷ rs) x = index_above (bound First f r.0 (BelowParameter r.1)) rs x ∙ go (r.0 == x) refl
  where
    filled : (o : Option Sort) (S : Sort) → is_some (first_of o (Some S)) ≡ true
    filled None S = refl
    filled (Some R) S = refl

    or_true : (c : Bool) → true ≡ (c || true)
    or_true true = refl
    or_true false = refl

    go : (b : Bool) → (r.0 == x) ≡ b → (is_some (cond b (first_of (f r.0) (Some (BelowParameter r.1))) (f x)) || is_index rs x) ≡ (is_some (f x) || (b || is_index rs x))
    go true d = ap (λ c. c || is_index rs x) (filled (f r.0) (BelowParameter r.1)) ∙ or_true (is_some (f x))
    go false d = refl
