-- The classes of objects (the Blue Book, IEC 62056-6-2).
use Rattle.std.specs.Prelude.{ℕ, ◌==◌, if◌then◌else◌, List, [], ◌∷◌, ◌++◌, Option, Some, None, codes}

-- a class: its name, and those of its attributes and of its methods, which are numbered from 1
pub record Names : Type 0 where
  pub class : List ℕ
  pub attributes : List (List ℕ)
  pub methods : List (List ℕ)

-- the names of the class with this number, if it is there
abbrev pub class_in : List (ℕ × Names) → ℕ → Option Names
class_in [] number = None
class_in (row ∷ rows) number = if number == row.0 then Some row.1 else class_in rows number

-- classes for parameters and measurement data
abbrev pub measurement_classes : List (ℕ × Names)
measurement_classes = (
  1,
  record {
    class = codes "Data";
    attributes = codes "logical_name" ∷ codes "value" ∷ [];
    methods = [];
  },
)
    ∷ (
      3,
      record {
        class = codes "Register";
        attributes = codes "logical_name" ∷ codes "value" ∷ codes "scaler_unit" ∷ [];
        methods = codes "reset" ∷ [];
      },
    )
    ∷ (
      4,
      record {
        class = codes "Extended register";
        attributes = codes "logical_name" ∷ codes "value" ∷ codes "scaler_unit" ∷ codes "status"
            ∷ codes "capture_time" ∷ [];
        methods = codes "reset" ∷ [];
      },
    )
    ∷ (
      5,
      record {
        class = codes "Demand register";
        attributes = codes "logical_name" ∷ codes "current_average_value"
            ∷ codes "last_average_value" ∷ codes "scaler_unit" ∷ codes "status"
            ∷ codes "capture_time" ∷ codes "start_time_current" ∷ codes "period"
            ∷ codes "number_of_periods" ∷ [];
        methods = codes "reset" ∷ codes "next_period" ∷ [];
      },
    )
    ∷ (
      6,
      record {
        class = codes "Register activation";
        attributes = codes "logical_name" ∷ codes "register_assignment" ∷ codes "mask_list"
            ∷ codes "active_mask" ∷ [];
        methods = codes "add_register" ∷ codes "add_mask" ∷ codes "delete_mask" ∷ [];
      },
    )
    ∷ (
      7,
      record {
        class = codes "Profile generic";
        attributes = codes "logical_name" ∷ codes "buffer" ∷ codes "capture_objects"
            ∷ codes "capture_period" ∷ codes "sort_method" ∷ codes "sort_object"
            ∷ codes "entries_in_use" ∷ codes "profile_entries" ∷ [];
        methods = codes "reset" ∷ codes "capture" ∷ [];
      },
    )
    ∷ (
      61,
      record {
        class = codes "Register table";
        attributes = codes "logical_name" ∷ codes "table_cell_values"
            ∷ codes "table_cell_definition" ∷ codes "scaler_unit" ∷ [];
        methods = codes "reset" ∷ codes "capture" ∷ [];
      },
    )
    ∷ []

-- classes for access control and management
abbrev pub management_classes : List (ℕ × Names)
management_classes = (
  12,
  record {
    class = codes "Association SN";
    attributes = codes "logical_name" ∷ codes "object_list" ∷ codes "access_rights_list"
        ∷ codes "security_setup_reference" ∷ [];
    methods = [];
  },
)
    ∷ (
      15,
      record {
        class = codes "Association LN";
        attributes = codes "logical_name" ∷ codes "object_list" ∷ codes "associated_partners_id"
            ∷ codes "application_context_name" ∷ codes "xDLMS_context_info"
            ∷ codes "authentication_mechanism_name" ∷ codes "secret" ∷ codes "association_status"
            ∷ codes "security_setup_reference" ∷ codes "user_list" ∷ codes "current_user" ∷ [];
        methods = codes "reply_to_HLS_authentication" ∷ codes "change_HLS_secret"
            ∷ codes "add_object" ∷ codes "remove_object" ∷ codes "add_user" ∷ codes "remove_user"
            ∷ [];
      },
    )
    ∷ (
      17,
      record {
        class = codes "SAP assignment";
        attributes = codes "logical_name" ∷ codes "SAP_assignment_list" ∷ [];
        methods = codes "connect_logical_device" ∷ [];
      },
    )
    ∷ (
      18,
      record {
        class = codes "Image transfer";
        attributes = codes "logical_name" ∷ codes "image_block_size"
            ∷ codes "image_transferred_blocks_status"
            ∷ codes "image_first_not_transferred_block_number" ∷ codes "image_transfer_enabled"
            ∷ codes "image_transfer_status" ∷ codes "image_to_activate_info" ∷ [];
        methods = codes "image_transfer_initiate" ∷ codes "image_block_transfer"
            ∷ codes "image_verify" ∷ codes "image_activate" ∷ [];
      },
    )
    ∷ (
      40,
      record {
        class = codes "Push setup";
        attributes = codes "logical_name" ∷ codes "push_object_list"
            ∷ codes "send_destination_and_method" ∷ codes "communication_window"
            ∷ codes "randomisation_start_interval" ∷ codes "number_of_retries"
            ∷ codes "repetition_delay" ∷ [];
        methods = codes "push" ∷ [];
      },
    )
    ∷ (
      64,
      record {
        class = codes "Security setup";
        attributes = codes "logical_name" ∷ codes "security_policy" ∷ codes "security_suite"
            ∷ codes "client_system_title" ∷ codes "server_system_title" ∷ [];
        methods = codes "security_activate" ∷ codes "key_transfer" ∷ [];
      },
    )
    ∷ []

-- classes for time- and event-bound control
abbrev pub control_classes : List (ℕ × Names)
control_classes = (
  8,
  record {
    class = codes "Clock";
    attributes = codes "logical_name" ∷ codes "time" ∷ codes "time_zone" ∷ codes "status"
        ∷ codes "daylight_savings_begin" ∷ codes "daylight_savings_end"
        ∷ codes "daylight_savings_deviation" ∷ codes "daylight_savings_enabled" ∷ codes "clock_base"
        ∷ [];
    methods = codes "adjust_to_quarter" ∷ codes "adjust_to_measuring_period"
        ∷ codes "adjust_to_minute" ∷ codes "adjust_to_preset_time" ∷ codes "preset_adjusting_time"
        ∷ codes "shift_time" ∷ [];
  },
)
    ∷ (
      9,
      record {
        class = codes "Script table";
        attributes = codes "logical_name" ∷ codes "scripts" ∷ [];
        methods = codes "execute" ∷ [];
      },
    )
    ∷ (
      10,
      record {
        class = codes "Schedule";
        attributes = codes "logical_name" ∷ codes "entries" ∷ [];
        methods = codes "enable/disable" ∷ codes "insert" ∷ codes "delete" ∷ [];
      },
    )
    ∷ (
      11,
      record {
        class = codes "Special days table";
        attributes = codes "logical_name" ∷ codes "entries" ∷ [];
        methods = codes "insert" ∷ codes "delete" ∷ [];
      },
    )
    ∷ (
      20,
      record {
        class = codes "Activity calendar";
        attributes = codes "logical_name" ∷ codes "calendar_name_active"
            ∷ codes "season_profile_active" ∷ codes "week_profile_table_active"
            ∷ codes "day_profile_table_active" ∷ codes "calendar_name_passive"
            ∷ codes "season_profile_passive" ∷ codes "week_profile_table_passive"
            ∷ codes "day_profile_table_passive" ∷ codes "activate_passive_calendar_time" ∷ [];
        methods = codes "activate_passive_calendar" ∷ [];
      },
    )
    ∷ (
      21,
      record {
        class = codes "Register monitor";
        attributes = codes "logical_name" ∷ codes "thresholds" ∷ codes "monitored_value"
            ∷ codes "actions" ∷ [];
        methods = [];
      },
    )
    ∷ (
      22,
      record {
        class = codes "Single action schedule";
        attributes = codes "logical_name" ∷ codes "executed_script" ∷ codes "type"
            ∷ codes "execution_time" ∷ [];
        methods = [];
      },
    )
    ∷ (
      70,
      record {
        class = codes "Disconnect control";
        attributes = codes "logical_name" ∷ codes "output_state" ∷ codes "control_state"
            ∷ codes "control_mode" ∷ [];
        methods = codes "remote_disconnect" ∷ codes "remote_reconnect" ∷ [];
      },
    )
    ∷ (
      71,
      record {
        class = codes "Limiter";
        attributes = codes "logical_name" ∷ codes "monitored_value" ∷ codes "threshold_active"
            ∷ codes "threshold_normal" ∷ codes "threshold_emergency"
            ∷ codes "min_over_threshold_duration" ∷ codes "min_under_threshold_duration"
            ∷ codes "emergency_profile" ∷ codes "emergency_profile_group_id_list"
            ∷ codes "emergency_profile_active" ∷ codes "actions" ∷ [];
        methods = [];
      },
    )
    ∷ []

-- classes for setting up data exchange
abbrev pub exchange_classes : List (ℕ × Names)
exchange_classes = (
  23,
  record {
    class = codes "IEC HDLC setup";
    attributes = codes "logical_name" ∷ codes "comm_speed" ∷ codes "window_size_transmit"
        ∷ codes "window_size_receive" ∷ codes "max_info_field_length_transmit"
        ∷ codes "max_info_field_length_receive" ∷ codes "inter_octet_time_out"
        ∷ codes "inactivity_time_out" ∷ codes "device_address" ∷ [];
    methods = [];
  },
)
    ∷ (
      41,
      record {
        class = codes "TCP-UDP setup";
        attributes = codes "logical_name" ∷ codes "TCP-UDP_port" ∷ codes "IP_reference"
            ∷ codes "MSS" ∷ codes "nb_of_sim_conn" ∷ codes "inactivity_time_out" ∷ [];
        methods = [];
      },
    )
    ∷ []

-- classes for local ports, modems and networks, and others
abbrev pub communication_classes : List (ℕ × Names)
communication_classes = (
  19,
  record {
    class = codes "IEC local port setup";
    attributes = codes "logical_name" ∷ codes "default_mode" ∷ codes "default_baud"
        ∷ codes "prop_baud" ∷ codes "response_time" ∷ codes "device_addr" ∷ codes "pass_p1"
        ∷ codes "pass_p2" ∷ codes "pass_w5" ∷ [];
    methods = [];
  },
)
    ∷ (
      25,
      record {
        class = codes "M-Bus slave port setup";
        attributes = codes "logical_name" ∷ codes "default_baud" ∷ codes "avail_baud"
            ∷ codes "addr_state" ∷ codes "bus_address" ∷ [];
        methods = [];
      },
    )
    ∷ (
      26,
      record {
        class = codes "Utility tables";
        attributes = codes "logical_name" ∷ codes "table_ID" ∷ codes "length" ∷ codes "buffer" ∷ [];
        methods = [];
      },
    )
    ∷ (
      27,
      record {
        class = codes "Modem configuration";
        attributes = codes "logical_name" ∷ codes "comm_speed" ∷ codes "initialization_string"
            ∷ codes "modem_profile" ∷ [];
        methods = [];
      },
    )
    ∷ (
      28,
      record {
        class = codes "Auto answer";
        attributes = codes "logical_name" ∷ codes "mode" ∷ codes "listening_window" ∷ codes "status"
            ∷ codes "number_of_calls" ∷ codes "number_of_rings" ∷ codes "list_of_allowed_callers"
            ∷ [];
        methods = [];
      },
    )
    ∷ (
      29,
      record {
        class = codes "Auto connect";
        attributes = codes "logical_name" ∷ codes "mode" ∷ codes "repetitions"
            ∷ codes "repetition_delay" ∷ codes "calling_window" ∷ codes "destination_list" ∷ [];
        methods = codes "connect" ∷ [];
      },
    )
    ∷ (
      42,
      record {
        class = codes "IPv4 setup";
        attributes = codes "logical_name" ∷ codes "DL_reference" ∷ codes "IP_address"
            ∷ codes "multicast_IP_address" ∷ codes "IP_options" ∷ codes "subnet_mask"
            ∷ codes "gateway_IP_address" ∷ codes "use_DHCP_flag" ∷ codes "primary_DNS_address"
            ∷ codes "secondary_DNS_address" ∷ [];
        methods = codes "add_mc_IP_address" ∷ codes "delete_mc_IP_address"
            ∷ codes "get_nbof_mc_IP_addresses" ∷ [];
      },
    )
    ∷ (
      43,
      record {
        class = codes "MAC address setup";
        attributes = codes "logical_name" ∷ codes "MAC_address" ∷ [];
        methods = [];
      },
    )
    ∷ (
      44,
      record {
        class = codes "PPP setup";
        attributes = codes "logical_name" ∷ codes "PHY_reference" ∷ codes "LCP_options"
            ∷ codes "IPCP_options" ∷ codes "PPP_authentication" ∷ [];
        methods = [];
      },
    )
    ∷ (
      45,
      record {
        class = codes "GPRS modem setup";
        attributes = codes "logical_name" ∷ codes "APN" ∷ codes "PIN_code"
            ∷ codes "quality_of_service" ∷ [];
        methods = [];
      },
    )
    ∷ (
      47,
      record {
        class = codes "GSM diagnostic";
        attributes = codes "logical_name" ∷ codes "operator" ∷ codes "status"
            ∷ codes "cs_attachment" ∷ codes "ps_status" ∷ codes "cell_info" ∷ codes "adjacent_cells"
            ∷ codes "capture_time" ∷ [];
        methods = [];
      },
    )
    ∷ (
      48,
      record {
        class = codes "IPv6 setup";
        attributes = codes "logical_name" ∷ codes "DL_reference" ∷ codes "address_config_mode"
            ∷ codes "unicast_IPv6_addresses" ∷ codes "multicast_IPv6_addresses"
            ∷ codes "gateway_IPv6_addresses" ∷ codes "primary_DNS_address"
            ∷ codes "secondary_DNS_address" ∷ codes "traffic_class"
            ∷ codes "neighbor_discovery_setup" ∷ [];
        methods = codes "add_IPv6_address" ∷ codes "remove_IPv6_address" ∷ [];
      },
    )
    ∷ (
      62,
      record {
        class = codes "Compact data";
        attributes = codes "logical_name" ∷ codes "compact_buffer" ∷ codes "capture_objects"
            ∷ codes "template_id" ∷ codes "template_description" ∷ codes "capture_method" ∷ [];
        methods = codes "reset" ∷ codes "capture" ∷ [];
      },
    )
    ∷ (
      63,
      record {
        class = codes "Status mapping";
        attributes = codes "logical_name" ∷ codes "status_word" ∷ codes "mapping_table" ∷ [];
        methods = [];
      },
    )
    ∷ (
      65,
      record {
        class = codes "Parameter monitor";
        attributes = codes "logical_name" ∷ codes "changed_parameter" ∷ codes "capture_time"
            ∷ codes "parameters" ∷ [];
        methods = codes "add_parameter" ∷ codes "delete_parameter" ∷ [];
      },
    )
    ∷ (
      68,
      record {
        class = codes "Arbitrator";
        attributes = codes "logical_name" ∷ codes "actions" ∷ codes "permissions_table"
            ∷ codes "weightings_table" ∷ codes "most_recent_requests_table" ∷ codes "last_outcome"
            ∷ [];
        methods = codes "request_action" ∷ codes "reset" ∷ [];
      },
    )
    ∷ (
      72,
      record {
        class = codes "M-Bus client";
        attributes = codes "logical_name" ∷ codes "mbus_port_reference" ∷ codes "capture_definition"
            ∷ codes "capture_period" ∷ codes "primary_address" ∷ codes "identification_number"
            ∷ codes "manufacturer_id" ∷ codes "version" ∷ codes "device_type"
            ∷ codes "access_number" ∷ codes "status" ∷ codes "alarm" ∷ codes "configuration"
            ∷ codes "encryption_key_status" ∷ [];
        methods = codes "slave_install" ∷ codes "slave_deinstall" ∷ codes "capture"
            ∷ codes "reset_alarm" ∷ codes "synchronize_clock" ∷ codes "data_send"
            ∷ codes "set_encryption_key" ∷ codes "transfer_key" ∷ [];
      },
    )
    ∷ []

-- classes for an exchange of data
abbrev pub setup_classes : List (ℕ × Names)
setup_classes = exchange_classes ++ communication_classes

abbrev pub classes : List (ℕ × Names)
classes = measurement_classes ++ (management_classes ++ (control_classes ++ setup_classes))
