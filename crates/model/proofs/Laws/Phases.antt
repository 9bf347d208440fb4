-- What one test on a phase says of another.
use Rattle.model.proofs.Logic.{◌≡◌, false, not, refl, sym, true}
use Rattle.model.specs.{Records.is_active, Records.is_inactive, Records.is_loading, Records.is_running, Records.is_unloading, declared.Phase.Phase}

pub running-installed : (f : Phase) → is_running f ≡ true → not (is_inactive f) ≡ true
running-installed Phase.Inactive h = h
running-installed Phase.Loading h = refl
running-installed Phase.Active h = refl
running-installed Phase.Unloading h = refl

pub running-stays : (f : Phase) → is_running f ≡ true → is_unloading f ≡ false
running-stays Phase.Inactive h = refl
running-stays Phase.Loading h = refl
running-stays Phase.Active h = refl
running-stays Phase.Unloading h = sym h

pub loading_running : (f : Phase) → is_loading f ≡ true → is_running f ≡ true
loading_running Phase.Inactive h = h
loading_running Phase.Loading h = refl
loading_running Phase.Active h = refl
loading_running Phase.Unloading h = h

pub inactive-stays : (f : Phase) → is_inactive f ≡ true → is_unloading f ≡ false
inactive-stays Phase.Inactive h = refl
inactive-stays Phase.Loading h = refl
inactive-stays Phase.Active h = refl
inactive-stays Phase.Unloading h = sym h

pub unloading_installed : (f : Phase) → is_unloading f ≡ true → not (is_inactive f) ≡ true
unloading_installed Phase.Inactive h = h
unloading_installed Phase.Loading h = refl
unloading_installed Phase.Active h = refl
unloading_installed Phase.Unloading h = refl

pub active-installed : (f : Phase) → is_active f ≡ true → not (is_inactive f) ≡ true
active-installed Phase.Inactive h = h
active-installed Phase.Loading h = refl
active-installed Phase.Active h = refl
active-installed Phase.Unloading h = refl

pub active-stays : (f : Phase) → is_active f ≡ true → is_unloading f ≡ false
active-stays Phase.Inactive h = refl
active-stays Phase.Loading h = refl
active-stays Phase.Active h = refl
active-stays Phase.Unloading h = sym h

pub inactive-is : (f : Phase) → is_inactive f ≡ true → f ≡ Phase.Inactive
inactive-is Phase.Inactive h = refl
inactive-is Phase.Loading h = cc
inactive-is Phase.Active h = cc
inactive-is Phase.Unloading h = cc

pub unloading_is : (f : Phase) → is_unloading f ≡ true → f ≡ Phase.Unloading
unloading_is Phase.Inactive h = cc
unloading_is Phase.Loading h = cc
unloading_is Phase.Active h = cc
unloading_is Phase.Unloading h = refl

pub active-is : (f : Phase) → is_active f ≡ true → f ≡ Phase.Active
active-is Phase.Inactive h = cc
active-is Phase.Loading h = cc
active-is Phase.Active h = refl
active-is Phase.Unloading h = cc
