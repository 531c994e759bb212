-- The first two bytes of a request tell which service and form it is of.
use Rattle.std.proofs.Common.{◌≡◌, ◌∙◌, ap, ℕ, Bool, List, [], ◌∷◌, ◌++◌, get_or, Ok}
use Rattle.dlms_apdu.specs.Forms.{RequestForm, get_normal, get_next, set_normal, set_first, set_block, action_normal, action_first, action_block}
use Rattle.dlms_apdu.specs.Reading.{request_at}
use Rattle.dlms_apdu.specs.Spelling.{SpellsRequest}
use Rattle.dlms_apdu.proofs.WholeLaws.{reads_requests}
use Rattle.dlms_service.specs.declared.association.Association.{Association}
use Rattle.dlms_service.specs.Serves.{permits, permits_form}

spelled_by : (x y : ℕ) (bytes f r g q : List ℕ) → bytes ≡ f ++ r → f ≡ x ∷ [] → r ≡ g ++ q → g ≡ y ∷ [] → bytes ≡ x ∷ y ∷ q
spelled_by x y bytes f r g q e one e' two = e ∙ ap (λ (l : List ℕ). l ++ r) one ∙ ap (λ (l : List ℕ). x ∷ l) (e' ∙ ap (λ (l : List ℕ). l ++ q) two)

module _ (a : Association) (bytes : List ℕ) where
  -- the meaning of the bytes, if they begin so
  abbrev told : Bool
  told = permits_form a (get_or bytes 0 0) (get_or bytes 1 0)

  begun : (x y : ℕ) (q : List ℕ) → bytes ≡ x ∷ y ∷ q → told ≡ permits_form a x y
  begun x y q e = ap (λ (l : List ℕ). permits_form a (get_or l 0 0) (get_or l 1 0)) e

  spelled : (form : RequestForm) → SpellsRequest bytes form → told ≡ permits a form
  spelled (get_normal invoke d s) h = begun 0xC0 1 h.4.1 (spelled_by 0xC0 1 bytes h.0 h.1 h.4.0 h.4.1 h.2 h.3 h.4.2 h.4.3)
  spelled (get_next invoke n) h = begun 0xC0 2 h.4.1 (spelled_by 0xC0 2 bytes h.0 h.1 h.4.0 h.4.1 h.2 h.3 h.4.2 h.4.3)
  spelled (set_normal invoke d s v) h = begun 0xC1 1 h.4.1 (spelled_by 0xC1 1 bytes h.0 h.1 h.4.0 h.4.1 h.2 h.3 h.4.2 h.4.3)
  spelled (set_first invoke d s last n raw) h = begun 0xC1 2 h.4.1 (spelled_by 0xC1 2 bytes h.0 h.1 h.4.0 h.4.1 h.2 h.3 h.4.2 h.4.3)
  spelled (set_block invoke last n raw) h = begun 0xC1 3 h.4.1 (spelled_by 0xC1 3 bytes h.0 h.1 h.4.0 h.4.1 h.2 h.3 h.4.2 h.4.3)
  spelled (action_normal invoke d p) h = begun 0xC3 1 h.4.1 (spelled_by 0xC3 1 bytes h.0 h.1 h.4.0 h.4.1 h.2 h.3 h.4.2 h.4.3)
  spelled (action_first invoke d last n raw) h = begun 0xC3 4 h.4.1 (spelled_by 0xC3 4 bytes h.0 h.1 h.4.0 h.4.1 h.2 h.3 h.4.2 h.4.3)
  spelled (action_block invoke last n raw) h = begun 0xC3 6 h.4.1 (spelled_by 0xC3 6 bytes h.0 h.1 h.4.0 h.4.1 h.2 h.3 h.4.2 h.4.3)

pub permitted : (a : Association) (bytes : List ℕ) (form : RequestForm) → request_at bytes ≡ Ok form → permits_form a (get_or bytes 0 0) (get_or bytes 1 0) ≡ permits a form
permitted a bytes form read = spelled a bytes form ((reads_requests bytes form).0 read)
