-- Works that are as they were.
use Rattle.std.proofs.Common.{◌≡◌, ℕ, length, take, refl, ap, sym, ◌∙◌, subst}
use Rattle.cv_pool.specs.PoolView.{Grows}
use Rattle.cv_syntax.specs.declared.work.Game.{Game}
use Rattle.cv_syntax.specs.declared.work.Work.{Work}
use Rattle.cv_rehearsals.specs.Works.{IsUnchanged, MayBegin}

-- such a work with its room at hand
abbrev pub with_room : (w : Work) → (spare : ℕ) → Work
with_room w spare = record w { pool = record w.pool { spare = spare } }

pub unchanged_is : (a b : Work) → IsUnchanged a b → with_room a b.pool.spare ≡ b
unchanged_is a b u = sym (λ i. record { pool = record { trees = u.trees i; limit = u.limit i; spare = b.pool.spare }; names = u.names i; decls = u.decls i })

pub unchanged_not : (w : Work) → IsUnchanged w w
unchanged_not w = record { trees = refl; limit = refl; names = refl; decls = refl }

pub unchanged_both : (a b c : Work) → IsUnchanged a b → IsUnchanged b c → IsUnchanged a c
unchanged_both a b c u v = record { trees = v.trees ∙ u.trees; limit = v.limit ∙ u.limit; names = v.names ∙ u.names; decls = v.decls ∙ u.decls }

-- what has grown goes back
pub unchanged_back : (old mid new : Work) (n k : ℕ) → Grows old.pool mid.pool → take (length old.names) mid.names ≡ old.names → mid.decls ≡ old.decls → n ≡ length old.pool.trees → new.pool.trees ≡ take n mid.pool.trees → new.pool.limit ≡ mid.pool.limit → k ≡ length old.names
    → new.names ≡ take k mid.names → new.decls ≡ mid.decls → IsUnchanged old new
unchanged_back old mid new n k grows kept same e trees limit f names decls = record {
  trees = trees ∙ (ap (λ x. take x mid.pool.trees) e ∙ grows.kept);
  limit = limit ∙ grows.limit;
  names = names ∙ (ap (λ x. take x mid.names) f ∙ kept);
  decls = decls ∙ same;
}

-- a search may begin there again
pub may_begin_again : (a b : Work) (game : Game) → MayBegin a game → IsUnchanged a b → MayBegin b game
may_begin_again a b game m u =
    subst (λ w. MayBegin w game) (unchanged_is a b u)
    (record { live = m.live; small = m.small; formed = m.formed; below = m.below; equivalences = m.equivalences; limit = m.limit })

pub ruleset unchanged = (unchanged_not, unchanged_both, may_begin_again)
