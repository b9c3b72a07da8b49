use Rattle.std.proofs.Common.{sym, refl}
use Rattle.cv_pool.proofs.names.Places.{found, hits, misses}
use Rattle.std.proofs.Common.{subst, ◌≡◌, ◌≢◌, ℕ, List, Some}
use Rattle.std.specs.Prelude.{slice_get}
use Rattle.cv_pool.proofs.names.names.Names.find.Goals as goal

pub returns-in-Some-clause-found : goal.returns-in-Some-clause-found
returns-in-Some-clause-found c = found c.self.inside.texts.keys c.args.text.now c.in-Some.place c.self.invariant.0 (sym c.in-Some.ensures.index) c.args.self.now c.self.view_is

pub returns-in-Some-clause-none : goal.returns-in-Some-clause-none
returns-in-Some-clause-none c = (λ e. absurd (cc), λ h. absurd (h c.in-Some.place (subst (λ (ts : List (List ℕ)). slice_get ts c.in-Some.place ≡ Some c.args.text.now) c.self.view_is (hits c.self.inside.texts.keys c.args.text.now c.in-Some.place (sym c.in-Some.ensures.index)))))

pub returns-in-None-clause-found : goal.returns-in-None-clause-found
returns-in-None-clause-found c = λ id. (λ e. absurd (cc), λ h. absurd (subst (λ (ts : List (List ℕ)). slice_get ts id.0 ≢ Some c.args.text.now) c.self.view_is (misses c.self.inside.texts.keys c.args.text.now (sym c.in-None.ensures.found) id.0) h))

pub returns-in-None-clause-none : goal.returns-in-None-clause-none
returns-in-None-clause-none c = (λ _. subst (λ (ts : List (List ℕ)). (n : ℕ) → slice_get ts n ≢ Some c.args.text.now) c.self.view_is (misses c.self.inside.texts.keys c.args.text.now (sym c.in-None.ensures.found)), λ _. refl)
