-- Reasons, case by case.
use Rattle.std.proofs.Common.{◌≡◌, ◌&&◌, Bool, true, false, refl, sym, ap, ap₂, ◌∙◌}
use Rattle.cv_syntax_trees.specs.declared.head.Head.{Head}
use Rattle.cv_syntax_trees.specs.declared.head.Head.TheVariants.{ByFact, BySite, ByEquation, ByCong, ByData, ByDistinct, ByGiven, ByLate, ByOtherFact, BySame}
use Rattle.cv_syntax_trees.specs.Tree.{Tree, Node}
use Rattle.cv_scene.specs.Reasons.{has_reason, is_reason, is_right}
use Rattle.cv_scene.specs.Sights.{is_typed}
use Rattle.cv_scene.specs.Sights as spec
use Rattle.cv_scene.specs.lines.Inferences.{Visible}
use Rattle.cv_scene.specs.lines.Lines.{Statement}
use Rattle.cv_derive.specs.Following.{follows_by}
use Rattle.cv_derive.specs.Seen.{IsSeenBy, Sees, sight_of}
use Rattle.cv_derive.specs.declared.sight.Sight.{Sight}

pub seen : (s : Sight) → Sees s → IsSeenBy s (sight_of s)
seen s e = record { declared = refl; sites = e.arrays; bound = e.above }

module _ (s : spec.Sight) (g : Tree) (v : Visible) where
  -- a reason by its head and its children
  pub reason_by : (t r : Tree) (h k : Head) (a b : Tree) (c : Bool) → r ≡ Node h a b → h ≡ k → c ≡ is_reason s g v t (Node k a b) → c ≡ is_reason s g v t r
  reason_by t r h k a b c e f i = i ∙ sym (ap (is_reason s g v t) (e ∙ ap (λ x. Node x a b) f))

  follows_reason : (t : Tree) (h : Head) (a b : Tree) → (h ≡ ByFact → ⊥) → (h ≡ BySite → ⊥) → (h ≡ ByEquation → ⊥) → (h ≡ ByCong → ⊥) → (h ≡ ByData → ⊥) → (h ≡ ByGiven → ⊥) → (h ≡ ByLate → ⊥) → (h ≡ ByOtherFact → ⊥) → (h ≡ BySame → ⊥) → (h ≡ ByDistinct → ⊥) → follows_by v t h a b ≡ is_reason s g v t (Node h a b)
  follows_reason t ByFact a b m n o p q r z x y w = absurd (m refl)
  follows_reason t BySite a b m n o p q r z x y w = absurd (n refl)
  follows_reason t ByEquation a b m n o p q r z x y w = absurd (o refl)
  follows_reason t ByCong a b m n o p q r z x y w = absurd (p refl)
  follows_reason t ByData a b m n o p q r z x y w = absurd (q refl)
  follows_reason t ByGiven a b m n o p q r z x y w = absurd (r refl)
  follows_reason t ByLate a b m n o p q r z x y w = absurd (z refl)
  follows_reason t ByOtherFact a b m n o p q r z x y w = absurd (x refl)
  follows_reason t BySame a b m n o p q r z x y w = absurd (y refl)
  follows_reason t ByDistinct a b m n o p q r z x y w = absurd (w refl)
  follows_reason t h a b m n o p q r z x y w = refl

  -- one that the terms of cited lines alone decide
  pub reason_follows : (t u : Tree) (h : Head) (a b : Tree) (c : Bool) → u ≡ Node h a b → c ≡ follows_by v t h a b → (h ≡ ByFact → ⊥) → (h ≡ BySite → ⊥) → (h ≡ ByEquation → ⊥) → (h ≡ ByCong → ⊥) → (h ≡ ByData → ⊥) → (h ≡ ByGiven → ⊥) → (h ≡ ByLate → ⊥) → (h ≡ ByOtherFact → ⊥) → (h ≡ BySame → ⊥) → (h ≡ ByDistinct → ⊥) → c ≡ is_reason s g v t u
  reason_follows t u h a b c e i m n o p q r z x y w = i ∙ (follows_reason t h a b m n o p q r z x y w ∙ sym (ap (is_reason s g v t) e))

  -- a line is right where what it says is typed and the reason is one for it

  pub untyped_line : (t : Statement) (r : Tree) (c : Bool) → c ≡ is_typed s t → c ≡ false → false ≡ is_right s g v t r
  untyped_line t r c e f = sym (ap (λ b. b && has_reason s g v t r) (sym e ∙ f))

  pub typed_line : (t u : Statement) (r : Tree) (c d : Bool) → c ≡ is_typed s t → c ≡ true → t ≡ u → d ≡ has_reason s g v u r → d ≡ is_right s g v t r
  typed_line t u r c d e f i j = j ∙ sym (ap₂ (λ b x. b && has_reason s g v x r) (sym e ∙ f) i)
