-- What is kept of a work while a step is tried.
use Rattle.std.proofs.Common.{◌≡◌, List, ℕ, length, take, ◌∙◌, refl}
use Rattle.cv_pool.specs.PoolView.{Grows}
use Rattle.cv_pool.proofs.Growth.{Grows_length, Grows_refl, Grows_same, Grows_trans}
use Rattle.cv_kernel.specs.declared.sequence.Sequence.{Sequence}
use Rattle.cv_syntax.specs.declared.work.Work.{Work}
use Rattle.cv_follow.specs.Searches.{HasGrown, IsKept}
use Rattle.cv_rule_array_names.proofs.NamesKept.{names_kept, names_stay}

pub grown_both : (a b c : Work) → HasGrown a b → HasGrown b c → HasGrown a c
grown_both a b c g h = record {
  grows = Grows_trans a.pool b.pool c.pool g.grows h.grows;
  names = names_kept a.names b.names c.names g.names h.names;
  decls = h.decls ∙ g.decls;
}

-- a pool alone has grown
pub grown_pool : (old new : Work) → Grows old.pool new.pool → new.names ≡ old.names → new.decls ≡ old.decls → HasGrown old new
grown_pool old new g n d = record { grows = g; names = names_same old.names new.names n; decls = d }
  where
    names_same : (xs ys : List (List ℕ)) → ys ≡ xs → take (length xs) ys ≡ xs
    names_same xs ys e = rw e (names_stay xs)

pub grown_not : (w : Work) → HasGrown w w
grown_not w = grown_pool w w (Grows_refl w.pool) refl refl

-- what stands behind a mark was given back, and the names that were put too
pub grown_back : (old mid new : Work) → HasGrown old mid → Grows old.pool new.pool → new.names ≡ mid.names → new.decls ≡ mid.decls → HasGrown old new
grown_back old mid new g h n d = record { grows = h; names = rw n g.names; decls = d ∙ g.decls }

-- nothing was taken
pub grown_kept : (old new : Work) (s t : Sequence) → IsKept old new s t → HasGrown old new
grown_kept old new s t k = grown_pool old new k.grows k.names k.decls

pub ruleset growing = (Grows_refl, Grows_trans, Grows_same, Grows_length, grown_both, grown_pool, grown_not)
