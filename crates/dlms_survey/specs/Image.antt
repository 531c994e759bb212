-- Pages that are read and never written, as a device: it keeps the disk rules, and at every moment a stop leaves them as they are.
use Rattle.std.proofs.Common.{◌≡◌, ℕ, List, true, length, refl, ap}
use Rattle.dlms_pages.specs.Device.{View, Rules}
use Rattle.dlms_pages.specs.declared.device.PageRead.{PageRead}

pub record ImageValue : Type 0 where
  pub pages : List PageRead
  -- how many bytes there were
  pub bytes : ℕ
  -- how often a write was asked for, each of which is a fault
  pub faults : ℕ

abbrev pub view_of : ImageValue → View
view_of image = record {
  honest = true;
  seen = image.pages;
  may_leave = λ c. c ≡ image.pages;
  moment = 0;
  left_since = λ t c. c ≡ image.pages;
  faults = image.faults;
}

pub image_rules : (image : ImageValue) → Rules (view_of image)
image_rules image = record {
  seen = refl;
  count = λ c is. ap length is;
  counts_now = λ t c le is. is;
  only_now = λ c is. is;
}
