-- What a client proposes in its association request.
use Rattle.std.specs.Prelude.{ℕ, ◌≤◌, List, Option, option_map}
use Rattle.dlms_blocks.specs.declared.block.TheConstants.{LEAST_SIZE, MOST_SIZE}
use Rattle.dlms_association.specs.declared.terms.Terms.{Terms as TermsOf}

pub record TermsValue : Type 0 where
  pub secret : Option (List ℕ)
  pub size : ℕ

abbrev pub terms_of : TermsOf → TermsValue
terms_of terms = record {
  secret = option_map (λ secret. secret.items) terms.secret;
  size = terms.size;
}

-- two ends may agree on APDUs of this size
pub record IsTerms (terms : TermsValue) : Type 0 where
  pub least : LEAST_SIZE ≤ terms.size
  pub most : terms.size ≤ MOST_SIZE
