-- The depth behind parentheses.
use Rattle.std.proofs.Common.{ℕ, zero, suc, List, [], ◌∷◌, length, refl, inl, inr, None}
use Rattle.cv_parse_notation.specs.declared.sign.Mark.TheVariants.{Process}
use Rattle.cv_parse_notation.specs.declared.sign.Sign.{Sign}
use Rattle.cv_parse_notation.specs.declared.sign.Sign.TheVariants.{Mark, Number}
use Rattle.cv_parse_notation.specs.Spells.{used}
use Rattle.cv_parse_grammar.specs.declared.role.Region.TheVariants.{InProcess}
use Rattle.cv_parse_grammar.specs.declared.role.Role.TheVariants.{Enters}
use Rattle.cv_parse_grammar.specs.Phrases.{Inputs}
use Rattle.cv_parse_grammar.specs.Rules.{file, heads, rule}
use Rattle.cv_parse_grammar.specs.depth.Depth.{HasDepth, StandsBelow}
use Rattle.cv_parse_grammar.specs.depth.Files.{parentheses_before}

-- in a process that stands one level down
below_depth : (n : ℕ) (behind : List Sign) → StandsBelow heads rule 0 (suc (suc n)) Inputs (parentheses_before n (Number 0 ∷ behind)) (Number 0 ∷ behind)
unfolding StandsBelow
below_depth zero behind = inl (inl (record { place = refl; fits = refl; levels = refl }))
below_depth (suc n) behind = inl (inr (refl, inl (inr (record { value = tt; uses = []; mid = parentheses_before n (Number 0 ∷ behind); phrase = record { tokens = refl; uses = refl }; holds = inl (below_depth n behind) }))))

pub parentheses_depth : (n : ℕ) (behind : List Sign) → HasDepth heads rule file (Mark Process ∷ parentheses_before n (Number 0 ∷ behind)) (Number 0 ∷ behind) (suc n)
parentheses_depth zero behind = (
  0,
  inr (record {
    value = [];
    uses = [];
    mid = Mark Process ∷ Number 0 ∷ behind;
    phrase = (record { tokens = refl; uses = refl }, λ e. absurd (cc));
    holds = inr (record {
      value = None;
      uses = [];
      mid = Mark Process ∷ Number 0 ∷ behind;
      phrase = (record { tokens = refl; uses = refl }, λ e. absurd (cc));
      holds = inr (record {
        value = tt;
        uses = [];
        mid = Number 0 ∷ behind;
        phrase = record { tokens = refl; uses = refl };
        holds = inr (record {
          value = length (Number 0 ∷ behind);
          uses = used (Enters InProcess) 0 (Number 0 ∷ behind);
          mid = Number 0 ∷ behind;
          phrase = (refl, record { tokens = refl; uses = refl });
          holds = inl (inl (inl (record { place = refl; fits = refl; levels = refl })));
        });
      });
    });
  }),
)
parentheses_depth (suc n) behind = (
  0,
  inr (record {
    value = [];
    uses = [];
    mid = Mark Process ∷ parentheses_before (suc n) (Number 0 ∷ behind);
    phrase = (record { tokens = refl; uses = refl }, λ e. absurd (cc));
    holds = inr (record {
      value = None;
      uses = [];
      mid = Mark Process ∷ parentheses_before (suc n) (Number 0 ∷ behind);
      phrase = (record { tokens = refl; uses = refl }, λ e. absurd (cc));
      holds = inr (record {
        value = tt;
        uses = [];
        mid = parentheses_before (suc n) (Number 0 ∷ behind);
        phrase = record { tokens = refl; uses = refl };
        holds = inr (record {
          value = length (parentheses_before (suc n) (Number 0 ∷ behind));
          uses = used (Enters InProcess) 0 (parentheses_before (suc n) (Number 0 ∷ behind));
          mid = parentheses_before (suc n) (Number 0 ∷ behind);
          phrase = (refl, record { tokens = refl; uses = refl });
          holds = inl (inl (inr (refl, inl (inr (record { value = tt; uses = []; mid = parentheses_before n (Number 0 ∷ behind); phrase = record { tokens = refl; uses = refl }; holds = inl (below_depth n behind) })))));
        });
      });
    });
  }),
)
